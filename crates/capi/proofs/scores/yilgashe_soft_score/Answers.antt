-- A code that is no kind, or the score in numbers.
use mathlib.Core.Path.{sym, ap, ◌∙◌}
use mathlib.Core.List.{List}
use Rattle.roster.specs.Roster.{of_ratings}
use Rattle.matchmaker.specs.Quality.{match_of}
use Rattle.objective.specs.Soft.{soft_score_rule}
use Rattle.objective.specs.declared.soft.SoftObjective.{SoftObjective}
use Rattle.capi.specs.Scores.{scored_numbers}
use Rattle.capi.proofs.scores.yilgashe_soft_score.Goals as goal

pub returns-then-has_no_kind : goal.returns-then-has_no_kind
returns-then-has_no_kind c = rw (sym c.has_no_kind.ensures ∙ c.if-has_no_kind.true)

pub returns : goal.returns
returns c =
    let a = c.args in
    rw (sym c.has_no_kind.ensures ∙ c.if-has_no_kind.false)
    (c.in_numbers.ensures
    ∙ ap scored_numbers (c.soft_score.ensures ∙ ap (λ (o : List SoftObjective). soft_score_rule (of_ratings a.ids.now a.ratings.now) (match_of a.proposed) o a.objectives.len) c.objectives-softs.ensures))
