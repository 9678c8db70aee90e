-- The score of what the calls read.
use mathlib.Core.Path.{◌∙◌}
use Rattle.choice.specs.Sums.{score_by}
use Rattle.choice.proofs.score_of.Goals as goal

pub returns : goal.returns
unfolding score_by
returns c = c.weighted_sum.ensures ∙ rw (c.latency_at-latency.ensures, c.average-3.ensures, c.quality_between-quality.ensures, c.average-2.ensures, c.average.ensures)
