-- `MatchObjective::score_from` meets its contract, by that of `average`.
use Rattle.objective.specs.Score.{score_from}
use Rattle.objective.proofs.score.MatchObjective.score_from.Goals as goal

pub returns : goal.returns
unfolding score_from
returns c = rw c.average.ensures
