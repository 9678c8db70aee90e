-- `soft::rated_soft_score` meets its contract, by those of the three it calls.
use Rattle.objective.proofs.soft.rated_soft_score.Goals as goal

pub returns : goal.returns
returns c = rw (c.weighted_sum.ensures, c.rated_latency-latency.ensures, c.rated_quality-quality.ensures)
