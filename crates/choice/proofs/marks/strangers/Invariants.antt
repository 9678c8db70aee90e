-- The set of the places from i on.
use mathlib.Core.Path.{◌≡◌}
use mathlib.Core.Bool.{not}
use lib.ListN.{drop}
use Rattle.constraint.specs.Constraints.{may_meet, pairs_of}
use Rattle.choice.specs.Reading.{marks}
use Rattle.choice.proofs.marks.strangers.Given as goal

abbrev pub invariant-loop-i : goal.invariant-loop-i
invariant-loop-i l = l.out ≡ marks (λ y. not (may_meet (pairs_of l.allowed) l.code y)) (drop l.i l.codes)
