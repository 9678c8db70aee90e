-- One law for each refusal, in the order of the definition.
use Rattle.std.specs.Prelude.{Err}
use Rattle.base.specs.Refusals.{outcome_of}
use Rattle.std.proofs.Common.{◌≡◌, ap, rules}
use native.Mathlib.Omega.{arith}
use mathlib.Core.Path.{sym, ◌∙◌}
use borrow.Author.Tests.{lt-ltb, le-ltb}
use Rattle.base.proofs.Checks.{guard_refuses, guard_passes, at_limit, under_limit, by_first, by_second}
use Rattle.seating.specs.Seating.{sizes_over}
use Rattle.seating.proofs.searching.check_first.Goals as goal

pub returns-then-waiting-gt64 : goal.returns-then-waiting-gt64
returns-then-waiting-gt64 c =
    let s = c.args in
    at_limit _ (by_first (sizes_over s.sizes) (lt-ltb 64 s.waiting (omega arith)))

pub returns-then-is_over : goal.returns-then-is_over
returns-then-is_over c =
    let s = c.args in
    at_limit _ (by_second (sizes_over s.sizes) (le-ltb 64 s.waiting (omega arith)) (sym c.is_over.ensures ∙ c.if-is_over.true))

pub returns-in_err-check_ratings : goal.returns-in_err-check_ratings
returns-in_err-check_ratings c =
    let s = c.args in
    let x : c.from_residual.result ≡ Err c.in_err-check_ratings.field-0.0 = search rules in
    ap outcome_of x ∙ under_limit _ (by_second (sizes_over s.sizes) (le-ltb 64 s.waiting (omega arith)) (sym c.is_over.ensures ∙ c.if-is_over.false))
    (guard_refuses _ c.check_ratings.result c.in_err-check_ratings.was c.check_ratings.ensures)

pub returns-then-are_short : goal.returns-then-are_short
returns-then-are_short c =
    let s = c.args in
    under_limit _ (by_second (sizes_over s.sizes) (le-ltb 64 s.waiting (omega arith)) (sym c.is_over.ensures ∙ c.if-is_over.false))
    (rw (sym c.are_short.ensures ∙ c.if-are_short.true) (guard_passes _ c.check_ratings.result c.in_ok-check_ratings.was c.check_ratings.ensures))

pub returns : goal.returns
returns c =
    let s = c.args in
    under_limit _ (by_second (sizes_over s.sizes) (le-ltb 64 s.waiting (omega arith)) (sym c.is_over.ensures ∙ c.if-is_over.false))
    (rw (sym c.are_short.ensures ∙ c.if-are_short.false) (guard_passes _ c.check_ratings.result c.in_ok-check_ratings.was c.check_ratings.ensures))
