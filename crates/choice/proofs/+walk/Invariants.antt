-- Too few are left, the whole match is weighed, the last two seats are filled, or the choices behind are walked with the first player and
-- then without. What the first call tried is counted by its contract, and the second goes on there.
use Rattle.choice.proofs.+walk.Given as goal

abbrev pub decreases-walk : goal.decreases-walk
decreases-walk l = l.rest
