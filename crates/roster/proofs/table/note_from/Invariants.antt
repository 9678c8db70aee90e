-- The rows gone by are in the table and differ.
use mathlib.Core.Path.{◌≡◌}
use mathlib.Core.Bool.{true}
use lib.ListN.{take}
use Rattle.base.specs.Lists.{distinct}
use Rattle.roster.specs.Steps.{Noted}
use Rattle.roster.proofs.table.note_from.Given as goal

abbrev pub invariant-loop-i : goal.invariant-loop-i
invariant-loop-i l = (distinct (take l.i l.ids) ≡ true) × Noted l.ids l.i l.last l.before
