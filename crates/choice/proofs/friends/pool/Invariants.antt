-- The sets of the guest's places from i on.
use mathlib.Core.Path.{◌≡◌}
use lib.ListN.{drop}
use Rattle.choice.specs.Reading.{pooled}
use Rattle.choice.proofs.friends.pool.Given as goal

abbrev pub invariant-loop-i : goal.invariant-loop-i
invariant-loop-i l = l.out ≡ pooled l.guest (drop l.i l.queued) (drop l.i l.sets)
