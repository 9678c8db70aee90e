-- A code that is no kind, or the score in numbers.
use mathlib.Core.Path.{sym, ap, ◌∙◌}
use mathlib.Core.List.{List}
use Rattle.roster.specs.Roster.{of_rules}
use Rattle.matchmaker.specs.Quality.{match_of}
use Rattle.objective.specs.declared.soft.SoftObjective.{SoftObjective}
use Rattle.constraint.specs.declared.Constraints.{Constraints}
use Rattle.policy.specs.Policy.{policy_score_rule}
use Rattle.capi.specs.Scores.{scored_numbers}
use Rattle.capi.specs.Rules.{constraints_of}
use Rattle.capi.proofs.rules.yilgashe_policy_score.Goals as goal

pub returns-then-has_no_kind : goal.returns-then-has_no_kind
returns-then-has_no_kind c = rw (sym c.has_no_kind.ensures ∙ c.if-has_no_kind.true)

pub returns : goal.returns
returns c =
    let a = c.args in
    let r = of_rules a.ids.now a.ratings.now a.parties.now a.roles.now a.regions.now in
    rw (sym c.has_no_kind.ensures ∙ c.if-has_no_kind.false)
    (c.in_numbers.ensures
    ∙ ap scored_numbers
    (c.score.ensures
    ∙ ap (λ (q : Constraints). policy_score_rule r q c.objectives-softs.result a.objectives.len (match_of a.proposed)) c.constraints_of-all.ensures
    ∙ ap (λ (o : List SoftObjective). policy_score_rule r (constraints_of a.constraints) o a.objectives.len (match_of a.proposed)) c.objectives-softs.ensures))
