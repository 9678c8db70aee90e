-- The set of the places from i on.
use mathlib.Core.Path.{◌≡◌}
use lib.Dec.{eqb}
use lib.ListN.{drop}
use Rattle.choice.specs.Reading.{marks}
use Rattle.choice.proofs.marks.alike.Given as goal

abbrev pub invariant-loop-i : goal.invariant-loop-i
invariant-loop-i l = l.out ≡ marks (λ k. eqb k l.key) (drop l.i l.keys)
