-- `Matches::write_players` meets its contract: what is written and the rest of the matches behind it make the whole sheet.
use Prim.Native.Nat.{◌≤◌}
use mathlib.Core.Path.{◌≡◌}
use mathlib.Core.List.{◌++◌, map}
use lib.ListN.{length, take, drop}
use Rattle.matchmaker.specs.Quality.{match_of}
use Rattle.seating.specs.Seating.{seats}
use Rattle.seating.specs.Steps.{overlaid}
use Rattle.seating.proofs.Matches.write_players.Given as goal

abbrev pub invariant-loop-next : goal.invariant-loop-next
invariant-loop-next l = (l.at ≤ length l.sheet) × (take l.at l.sheet ++ overlaid (seats (map match_of (drop l.next-index l.next-items))) (drop l.at l.sheet) ≡ overlaid (seats (map match_of l.next-items)) l.initial.sheet)
