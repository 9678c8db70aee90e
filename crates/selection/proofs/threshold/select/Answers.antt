-- One law for each answer: the refusals, and the first that reaches the minimum.
use Prim.Native.Nat.{◌≤◌}
use mathlib.Core.Path.{ap, ◌∙◌}
use native.Mathlib.Omega.{arith}
use Rattle.base.specs.Refusals.{gives}
use Rattle.roster.specs.Roster.{of_ratings, ratings_check}
use Rattle.ranking.specs.Order.{numbered}
use Rattle.selection.specs.Selection.{candidates_of, stated, too_much, first_at_least}
use Rattle.selection.proofs.Laws.{answer_refused, answer_given, passed_fits}
use Rattle.selection.proofs.threshold.select.Goals as goal

pub returns-in-Err : goal.returns-in-Err
returns-in-Err c =
    let a = c.args in
    let r = of_ratings a.ids.now a.ratings.now in
    let t = too_much (candidates_of a.candidates a.n) a.count in
    answer_refused t (ratings_check r) _ _ c.in-Err.is c.check.ensures c.refuse.ensures

pub scores-scores-requires : goal.scores-scores-requires
scores-scores-requires c =
    let a = c.args in
    let h : a.n ≤ 64 = (passed_fits (candidates_of a.candidates a.n) a.count _ _ c.in_default.is c.check.ensures).0 in
    omega arith

pub first_at_least-requires : goal.first_at_least-requires
first_at_least-requires c =
    let a = c.args in
    let h : a.n ≤ 64 = (passed_fits (candidates_of a.candidates a.n) a.count _ _ c.in_default.is c.check.ensures).0 in
    omega arith

pub returns : goal.returns
returns c =
    let a = c.args in
    let r = of_ratings a.ids.now a.ratings.now in
    let t = too_much (candidates_of a.candidates a.n) a.count in
    answer_given t (ratings_check r) _ _ c.in_default.is c.check.ensures (c.first_at_least.ensures ∙ ap (λ s. stated (gives (first_at_least a.minimum (numbered 0 s)))) c.scores-scores.ensures)
