-- A copy from the front: what is found of so many players, and the sheet beyond.
use Prim.Native.Nat.{ℕ}
use mathlib.Core.Path.{◌≡◌}
use mathlib.Core.List.{◌++◌, map}
use lib.ListN.{take, drop}
use Rattle.std.specs.Prelude.{is_some}
use Rattle.roster.specs.Roster.{observe}
use Rattle.roster.proofs.places.write_known.Given as goal

abbrev pub invariant-loop-i : goal.invariant-loop-i
invariant-loop-i l = l.known ≡ take l.i (map (λ (p : ℕ). is_some (observe l.ids l.column p)) l.players) ++ drop l.i l.initial.known
