-- A search: the first in what is left is the first of all.
use mathlib.Core.Path.{◌≡◌}
use lib.ListN.{take, drop}
use Rattle.ranking.specs.Order.{numbered}
use Rattle.selection.specs.Selection.{first_at_least}
use Rattle.selection.proofs.threshold.first_at_least.Given as goal

abbrev pub invariant-loop-i : goal.invariant-loop-i
invariant-loop-i l = (first_at_least l.minimum (numbered 0 (take l.n l.scores)) ≡ first_at_least l.minimum (numbered l.i (drop l.i (take l.n l.scores))))
