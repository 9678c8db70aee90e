-- Who of the places so far may be seated.
use mathlib.Core.Path.{◌≡◌}
use mathlib.Core.List.{map}
use lib.ListN.{length, take}
use mathlib.Core.Bool.{not, cond, ◌&&◌, ◌||◌}
use Rattle.roster.specs.Roster.{of_ratings, of_parties, rating_of, party_of}
use Rattle.constraint.specs.Constraints.{above_zero, party_together}
use Rattle.choice.proofs.marks.admits_of.Given as goal

abbrev pub invariant-loop-i : goal.invariant-loop-i
invariant-loop-i l = (length l.out ≡ 64) × (take l.i l.out ≡ map (λ p. (not l.brought.latency || above_zero (rating_of (of_ratings l.ids l.ratings) p)) && party_together (of_parties l.ids l.parties) l.queue (cond l.brought.parties (party_of (of_parties l.ids l.parties) p) 0)) (take l.i l.queue))
