-- The places of the same party, for each place so far.
use mathlib.Core.Path.{◌≡◌}
use mathlib.Core.List.{map}
use lib.ListN.{length, take}
use mathlib.Core.Bool.{not, ◌&&◌}
use lib.Dec.{eqb}
use Rattle.choice.specs.Reading.{marks}
use Rattle.choice.proofs.marks.partners_of.Given as goal

abbrev pub invariant-loop-i : goal.invariant-loop-i
invariant-loop-i l = (length l.out ≡ 64) × (take l.i l.out ≡ map (λ p. marks (λ q. not (eqb p 0) && eqb q p) l.parties) (take l.i l.parties))
