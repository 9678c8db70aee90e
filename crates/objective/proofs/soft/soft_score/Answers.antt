-- One law for each of its returns.
use Rattle.std.specs.Prelude.{Err}
use Rattle.base.specs.Refusals.{outcome_of}
use Rattle.std.proofs.Common.{◌≡◌, ap, rules}
use mathlib.Core.Path.{sym, ◌∙◌}
use borrow.Author.Tests.{lt-ltb, le-ltb}
use Rattle.roster.specs.Roster.{of_ratings}
use Rattle.matchmaker.specs.Quality.{match_of}
use Rattle.objective.proofs.Laws.{soft_overfull, soft_long, soft_roster, soft_given}
use Rattle.objective.proofs.soft.soft_score.Goals as goal

pub returns-then-is_overfull : goal.returns-then-is_overfull
returns-then-is_overfull c =
    let a = c.args in
    soft_overfull (of_ratings a.ids.now a.ratings.now) (match_of a.proposed) a.objectives a.count (sym c.is_overfull.ensures ∙ c.if-is_overfull.true)

pub returns-then-count-gt8 : goal.returns-then-count-gt8
returns-then-count-gt8 c =
    let a = c.args in
    soft_long (of_ratings a.ids.now a.ratings.now) (match_of a.proposed) a.objectives a.count (sym c.is_overfull.ensures ∙ c.if-is_overfull.false) (lt-ltb _ _ c.if-count-gt8.true)

pub returns-in_err-check_ratings : goal.returns-in_err-check_ratings
returns-in_err-check_ratings c =
    let a = c.args in
    let x : c.from_residual.result ≡ Err c.in_err-check_ratings.field-0.0 = search rules in
    ap outcome_of x ∙ soft_roster (of_ratings a.ids.now a.ratings.now) (match_of a.proposed) a.objectives a.count
    (sym c.is_overfull.ensures ∙ c.if-is_overfull.false) (le-ltb _ _ c.if-count-gt8.false) _ c.check_ratings.ensures c.in_err-check_ratings.was

pub returns : goal.returns
returns c =
    let a = c.args in
    soft_given (of_ratings a.ids.now a.ratings.now) (match_of a.proposed) a.objectives a.count
    (sym c.is_overfull.ensures ∙ c.if-is_overfull.false) (le-ltb _ _ c.if-count-gt8.false) _ c.check_ratings.ensures c.in_ok-check_ratings.was c.rated_soft_score.ensures
