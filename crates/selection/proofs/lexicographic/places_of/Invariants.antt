-- An array filled: the place of each that is left.
use mathlib.Core.Path.{◌≡◌}
use mathlib.Core.List.{map}
use lib.ListN.{length, take}
use Rattle.selection.proofs.lexicographic.places_of.Given as goal

abbrev pub invariant-loop-i : goal.invariant-loop-i
invariant-loop-i l = (length l.places ≡ 64) × (take l.i l.places ≡ map (λ x. x.place) (take l.i l.shortlist.candidates))
