-- The rest of the ids decides what all of them decide.
use mathlib.Core.Path.{◌≡◌}
use lib.ListN.{drop}
use Rattle.base.specs.Lists.{distinct}
use Rattle.roster.proofs.differ_pairwise.Given as goal

abbrev pub invariant-loop-i : goal.invariant-loop-i
invariant-loop-i l = distinct l.ids ≡ distinct (drop l.i l.ids)
