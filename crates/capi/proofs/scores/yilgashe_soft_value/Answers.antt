-- A code that is no kind, or the value in numbers.
use mathlib.Core.Path.{ap, ◌∙◌}
use borrow.Author.Tests.{lt-ltb, le-ltb}
use Rattle.roster.specs.Roster.{of_ratings}
use Rattle.matchmaker.specs.Quality.{match_of}
use Rattle.objective.specs.Soft.{soft_value_rule}
use Rattle.objective.specs.declared.soft.SoftObjective.{SoftObjective}
use Rattle.capi.specs.Scores.{scored_numbers}
use Rattle.capi.proofs.scores.yilgashe_soft_value.Goals as goal

pub returns-then-kind-gt2 : goal.returns-then-kind-gt2
returns-then-kind-gt2 c = rw (lt-ltb _ _ c.if-kind-gt2.true)

pub returns : goal.returns
returns c =
    let a = c.args in
    rw (le-ltb _ _ c.if-kind-gt2.false)
    (c.in_numbers.ensures
    ∙ ap scored_numbers (c.value.ensures ∙ ap (λ (o : SoftObjective). soft_value_rule (of_ratings a.ids.now a.ratings.now) (match_of a.proposed) o) c.soft_of.ensures))
