-- The rows gone by are in the table and differ.
use Prim.Native.Nat.{◌*◌}
use mathlib.Core.Path.{◌≡◌}
use mathlib.Core.Bool.{true}
use lib.ListN.{take}
use Rattle.base.specs.Lists.{distinct}
use Rattle.roster.specs.Steps.{Noted}
use Rattle.roster.proofs.table.note_all.Given as goal

abbrev pub invariant-loop-turn : goal.invariant-loop-turn
invariant-loop-turn l = (distinct (take (4 * l.turn) l.ids) ≡ true) × Noted l.ids (4 * l.turn) l.last l.before
