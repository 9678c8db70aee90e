-- The places of the same player, for each place so far.
use mathlib.Core.Path.{◌≡◌}
use mathlib.Core.List.{map}
use lib.ListN.{length, take}
use lib.Dec.{eqb}
use Rattle.choice.specs.Reading.{marks}
use Rattle.choice.proofs.marks.same_of.Given as goal

abbrev pub invariant-loop-i : goal.invariant-loop-i
invariant-loop-i l = (length l.out ≡ 64) × (take l.i l.out ≡ map (λ p. marks (λ q. eqb q p) l.queued) (take l.i l.queued))
