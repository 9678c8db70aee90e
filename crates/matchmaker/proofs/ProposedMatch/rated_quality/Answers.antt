-- `ProposedMatch::rated_quality` meets its contract, by those of the two it calls.
use Rattle.matchmaker.proofs.ProposedMatch.rated_quality.Goals as goal

pub returns : goal.returns
returns c = rw (c.quality_between.ensures, c.average_rating.ensures, c.average_rating-2.ensures)
