-- The rows of the players are found, and what is written so far are the ratings in the first of them.
use mathlib.Core.Path.{◌≡◌}
use mathlib.Core.List.{map}
use lib.ListN.{length, take}
use Rattle.candidate.proofs.Laws.{rating_in}
use Rattle.candidate.proofs.nearest.ratings_of.Given as goal

abbrev pub invariant-loop-i : goal.invariant-loop-i
invariant-loop-i l = (length l.out ≡ 64) × (length l.rows ≡ 64) × (take l.i l.out ≡ map (rating_in l.ratings) (take l.i l.rows))
