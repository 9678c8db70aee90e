-- The rows gone by and the row in the rest make the row, whichever of the four decides.
use Prim.Native.Nat.{◌+◌, ◌*◌}
use mathlib.Core.Path.{◌≡◌}
use lib.ListN.{drop}
use Rattle.roster.specs.Roster.{row_of}
use Rattle.roster.proofs.row_of.Given as goal

abbrev pub invariant-loop-turn : goal.invariant-loop-turn
invariant-loop-turn l = row_of l.player l.ids ≡ 4 * l.turn + row_of l.player (drop (4 * l.turn) l.ids)
