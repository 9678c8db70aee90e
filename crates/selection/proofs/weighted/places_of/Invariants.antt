-- An array filled to its end: the place of each of the order.
use mathlib.Core.Path.{◌≡◌}
use mathlib.Core.List.{map}
use lib.ListN.{length, take}
use Rattle.selection.proofs.weighted.places_of.Given as goal

abbrev pub invariant-loop-i : goal.invariant-loop-i
invariant-loop-i l = (length l.places ≡ 64) × (take l.i l.places ≡ map (λ x. x.place) (take l.i l.order.ranked))
