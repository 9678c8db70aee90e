-- One law for each answer: the refusals, nobody, and the best.
use Prim.Native.Nat.{◌≤◌}
use mathlib.Core.Path.{sym, ap, ◌∙◌}
use native.Mathlib.Omega.{arith}
use Rattle.base.specs.Refusals.{gives}
use Rattle.roster.specs.Roster.{of_ratings, ratings_check}
use Rattle.ranking.specs.Order.{numbered}
use Rattle.selection.specs.Selection.{candidates_of, stated, too_much, best_of}
use Rattle.selection.proofs.Laws.{answer_refused, passed_fits, ranked_refused, ranked_given, best_none}
use Rattle.selection.proofs.greedy.select.Goals as goal

pub returns-in-Err : goal.returns-in-Err
returns-in-Err c =
    let a = c.args in
    let r = of_ratings a.ids.now a.ratings.now in
    let t = too_much (candidates_of a.candidates a.n) a.count in
    answer_refused t (ratings_check r) _ _ c.in-Err.is c.check.ensures c.refuse.ensures

pub scores-scores-requires : goal.scores-scores-requires
scores-scores-requires c =
    let a = c.args in
    let h : a.n ≤ 64 = (passed_fits (candidates_of a.candidates a.n) a.count _ _ c.in_default.is c.check.ensures).0 in
    omega arith

pub returns-then-is_unrankable : goal.returns-then-is_unrankable
returns-then-is_unrankable c =
    let a = c.args in
    let r = of_ratings a.ids.now a.ratings.now in
    let t = too_much (candidates_of a.candidates a.n) a.count in
    ranked_refused t (ratings_check r) (λ s. best_of (numbered 0 s)) c.scores-scores.ensures _ c.in_default.is c.check.ensures (sym c.is_unrankable.ensures ∙ c.if-is_unrankable.true) c.refuse-then-is_unrankable.ensures

pub returns-then-n-eq0 : goal.returns-then-n-eq0
returns-then-n-eq0 c =
    let a = c.args in
    let r = of_ratings a.ids.now a.ratings.now in
    let t = too_much (candidates_of a.candidates a.n) a.count in
    ranked_given t (ratings_check r) (λ s. best_of (numbered 0 s)) c.scores-scores.ensures _ c.in_default.is c.check.ensures (sym c.is_unrankable.ensures ∙ c.if-is_unrankable.false) (c.nobody.ensures ∙ ap (λ ps. stated (gives ps)) (best_none c.scores-scores.result a.n c.if-n-eq0.true))

pub last_best-requires : goal.last_best-requires
last_best-requires c =
    let a = c.args in
    let h = passed_fits (candidates_of a.candidates a.n) a.count _ _ c.in_default.is c.check.ensures in
    (omega arith, h.0)

pub returns : goal.returns
returns c =
    let a = c.args in
    let r = of_ratings a.ids.now a.ratings.now in
    let t = too_much (candidates_of a.candidates a.n) a.count in
    ranked_given t (ratings_check r) (λ s. best_of (numbered 0 s)) c.scores-scores.ensures _ c.in_default.is c.check.ensures (sym c.is_unrankable.ensures ∙ c.if-is_unrankable.false) (c.just.ensures ∙ ap (λ ps. stated (gives ps)) c.last_best.ensures)
