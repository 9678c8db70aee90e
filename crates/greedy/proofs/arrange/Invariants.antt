-- An array filled: what stands at the places so far.
use mathlib.Core.Path.{◌≡◌}
use mathlib.Core.List.{map}
use lib.ListN.{take, get_or}
use Rattle.greedy.proofs.arrange.Given as goal

abbrev pub invariant-loop-k : goal.invariant-loop-k
invariant-loop-k g l = (nothing : _) → take l.k l.out ≡ map (λ p. get_or l.column p nothing) (take l.k l.places)
