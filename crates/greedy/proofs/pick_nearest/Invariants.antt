-- Each run so far is what that many turns make, and the two find what one would.
use mathlib.Core.Path.{◌≡◌}
use Rattle.base.specs.Lists.{times}
use Rattle.greedy.specs.Steps.{nobody_of, near_of, nearer_free, nearer_from}
use Rattle.greedy.proofs.pick_nearest.Given as goal

abbrev pub invariant-loop-i : goal.invariant-loop-i
invariant-loop-i l = (near_of l.first ≡ times (nearer_free l.reference l.free) (nobody_of l.n) l.i) × (near_of l.second ≡ times (nearer_from l.reference l.free l.half) (nobody_of l.n) l.i)
