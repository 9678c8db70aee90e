-- The first check's refusals, and behind them that of the entries.
use Rattle.std.specs.Prelude.{Err}
use Rattle.base.specs.Refusals.{outcome_of}
use Rattle.std.proofs.Common.{◌≡◌, ap, rules}
use mathlib.Core.Path.{sym, ◌∙◌}
use Rattle.base.proofs.Checks.{guard_refuses, guard_passes}
use Rattle.queue.specs.Queue.{queue_of}
use Rattle.roster.specs.Roster.{of_ratings}
use Rattle.seating.proofs.Checked.{check_first, time_over_lem, in_time}
use Rattle.seating.proofs.searching.check.Goals as goal

pub returns-in_err-check_first : goal.returns-in_err-check_first
returns-in_err-check_first c =
    let a = c.args in
    let whole = check_first a.sizes (of_ratings a.ids.now a.ratings.now) (queue_of a.queue) a.players a.qualities in
    let k = c.check_first in
    let x : c.from_residual.result ≡ Err c.in_err-check_first.field-0.0 = search rules in
    ap outcome_of x ∙ guard_refuses _ k.result c.in_err-check_first.was k.ensures ∙ whole

pub returns-then-has_joined_over : goal.returns-then-has_joined_over
returns-then-has_joined_over c =
    let a = c.args in
    let whole = check_first a.sizes (of_ratings a.ids.now a.ratings.now) (queue_of a.queue) a.players a.qualities in
    let k = c.check_first in
    time_over_lem _ (sym c.has_joined_over.ensures ∙ c.if-has_joined_over.true) ∙ guard_passes _ k.result c.in_ok-check_first.was k.ensures ∙ whole

pub returns : goal.returns
returns c =
    let a = c.args in
    let whole = check_first a.sizes (of_ratings a.ids.now a.ratings.now) (queue_of a.queue) a.players a.qualities in
    let k = c.check_first in
    in_time _ (sym c.has_joined_over.ensures ∙ c.if-has_joined_over.false) ∙ guard_passes _ k.result c.in_ok-check_first.was k.ensures ∙ whole
