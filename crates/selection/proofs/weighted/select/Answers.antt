-- One law for each answer: the refusals, and all places in their order.
use Prim.Native.Nat.{◌≤◌}
use mathlib.Core.Path.{sym, ap, ◌∙◌}
use mathlib.Core.List.{map}
use native.Mathlib.Omega.{arith}
use Rattle.base.specs.Refusals.{gives}
use Rattle.ranking.proofs.Laws.{ordered_by}
use Rattle.roster.specs.Roster.{of_ratings, ratings_check}
use Rattle.selection.specs.Selection.{candidates_of, stated, too_much, falling_places}
use Rattle.selection.proofs.Laws.{answer_refused, passed_fits, ranked_refused, ranked_given}
use Rattle.selection.proofs.weighted.select.Goals as goal

pub returns-in-Err : goal.returns-in-Err
returns-in-Err c =
    let a = c.args in
    let r = of_ratings a.ids.now a.ratings.now in
    let t = too_much (candidates_of a.candidates a.n) 0 in
    answer_refused t (ratings_check r) _ _ c.in-Err.is c.check.ensures c.refuse.ensures

pub skill_scores-scores-requires : goal.skill_scores-scores-requires
skill_scores-scores-requires c =
    let a = c.args in
    let h : a.n ≤ 64 = (passed_fits (candidates_of a.candidates a.n) 0 _ _ c.in_default.is c.check.ensures).0 in
    omega arith

pub returns-then-is_unrankable : goal.returns-then-is_unrankable
returns-then-is_unrankable c =
    let a = c.args in
    let r = of_ratings a.ids.now a.ratings.now in
    let t = too_much (candidates_of a.candidates a.n) 0 in
    ranked_refused t (ratings_check r) falling_places c.skill_scores-scores.ensures _ c.in_default.is c.check.ensures (sym c.is_unrankable.ensures ∙ c.if-is_unrankable.true) c.refuse-then-is_unrankable.ensures

pub places_of-requires : goal.places_of-requires
places_of-requires c = ordered_by _ c.falling.ensures

pub returns : goal.returns
returns c =
    let a = c.args in
    let r = of_ratings a.ids.now a.ratings.now in
    let t = too_much (candidates_of a.candidates a.n) 0 in
    ranked_given t (ratings_check r) falling_places c.skill_scores-scores.ensures _ c.in_default.is c.check.ensures (sym c.is_unrankable.ensures ∙ c.if-is_unrankable.false) (c.places_of.ensures ∙ ap (λ o. stated (gives (map (λ x. x.place) o.ranked))) c.falling.ensures)
