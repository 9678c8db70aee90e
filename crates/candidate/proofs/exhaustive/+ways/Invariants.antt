-- Pascal's rule, and nothing to do where there are too few.
use Rattle.candidate.proofs.exhaustive.+ways.Given as goal

abbrev pub decreases-ways : goal.decreases-ways
decreases-ways l = l.n
