-- The score, in numbers.
use mathlib.Core.Path.{ap, ◌∙◌}
use Rattle.capi.specs.Scores.{scored_numbers}
use Rattle.capi.proofs.scores.yilgashe_match_score.Goals as goal

pub returns : goal.returns
returns c = c.in_numbers.ensures ∙ ap scored_numbers c.score.ensures
