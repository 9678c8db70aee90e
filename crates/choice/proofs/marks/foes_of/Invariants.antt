-- The places of the regions that may not meet, for each place so far.
use mathlib.Core.Path.{◌≡◌}
use mathlib.Core.List.{map}
use lib.ListN.{length, take}
use mathlib.Core.Bool.{not}
use Rattle.constraint.specs.Constraints.{may_meet, pairs_of}
use Rattle.choice.specs.Reading.{marks}
use Rattle.choice.proofs.marks.foes_of.Given as goal

abbrev pub invariant-loop-i : goal.invariant-loop-i
invariant-loop-i l = (length l.out ≡ 64) × (take l.i l.out ≡ map (λ x. marks (λ y. not (may_meet (pairs_of l.allowed) x y)) l.codes) (take l.i l.codes))
