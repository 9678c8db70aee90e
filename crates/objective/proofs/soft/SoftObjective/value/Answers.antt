-- One law for each of its returns.
use Rattle.std.specs.Prelude.{Err}
use Rattle.base.specs.Refusals.{outcome_of}
use Rattle.std.proofs.Common.{◌≡◌, ap, rules}
use mathlib.Core.Path.{sym, ◌∙◌}
use Rattle.roster.specs.Roster.{of_ratings}
use Rattle.matchmaker.specs.Quality.{match_of}
use Rattle.objective.proofs.Laws.{value_overfull, value_roster, value_given}
use Rattle.objective.proofs.soft.SoftObjective.value.Goals as goal

pub returns-then-is_overfull : goal.returns-then-is_overfull
returns-then-is_overfull c =
    let a = c.args in
    value_overfull (of_ratings a.ids.now a.ratings.now) (match_of a.proposed) a.self (sym c.is_overfull.ensures ∙ c.if-is_overfull.true)

pub returns-in_err-check_ratings : goal.returns-in_err-check_ratings
returns-in_err-check_ratings c =
    let a = c.args in
    let x : c.from_residual.result ≡ Err c.in_err-check_ratings.field-0.0 = search rules in
    ap outcome_of x ∙ value_roster (of_ratings a.ids.now a.ratings.now) (match_of a.proposed) a.self (sym c.is_overfull.ensures ∙ c.if-is_overfull.false) _ c.check_ratings.ensures c.in_err-check_ratings.was

pub returns : goal.returns
returns c =
    let a = c.args in
    let e = rw (c.rated_quality-quality.ensures, c.rated_latency-latency.ensures) at c.value_from.ensures in
    value_given (of_ratings a.ids.now a.ratings.now) (match_of a.proposed) a.self (sym c.is_overfull.ensures ∙ c.if-is_overfull.false) _ c.check_ratings.ensures c.in_ok-check_ratings.was e
