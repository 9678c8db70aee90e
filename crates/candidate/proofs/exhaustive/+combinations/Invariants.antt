-- The walk on two lent sheets: at the end of a choice its match is written; else the choices with the next player, then those
-- without. What the first call wrote is counted by its contract, and the second goes on there.
use Rattle.candidate.proofs.exhaustive.+combinations.Given as goal

abbrev pub decreases-combinations : goal.decreases-combinations
decreases-combinations l = l.rest
