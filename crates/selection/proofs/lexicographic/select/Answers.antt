-- One law for each answer: the refusals, and the places of those left.
use Prim.Native.Nat.{◌≤◌}
use mathlib.Core.Path.{ap, ◌∙◌}
use mathlib.Core.List.{map}
use native.Mathlib.Omega.{arith}
use lib.ListN.{take}
use Rattle.base.specs.Refusals.{gives}
use Rattle.roster.specs.Roster.{of_ratings, ratings_check}
use Rattle.selection.specs.Selection.{candidates_of, stated, too_much, narrowed}
use Rattle.selection.proofs.Laws.{answer_refused, answer_given, passed_fits}
use Rattle.selection.proofs.lexicographic.select.Goals as goal

pub returns-in-Err : goal.returns-in-Err
returns-in-Err c =
    let a = c.args in
    let r = of_ratings a.ids.now a.ratings.now in
    let t = too_much (candidates_of a.candidates a.n) a.count in
    answer_refused t (ratings_check r) _ _ c.in-Err.is c.check.ensures c.refuse.ensures

pub listed-requires : goal.listed-requires
listed-requires c =
    let a = c.args in
    let h : a.n ≤ 64 = (passed_fits (candidates_of a.candidates a.n) a.count _ _ c.in_default.is c.check.ensures).0 in
    omega arith

pub narrow-requires : goal.narrow-requires
narrow-requires c =
    let a = c.args in
    let h = passed_fits (candidates_of a.candidates a.n) a.count _ _ c.in_default.is c.check.ensures in
    (h.1, c.listed.ensures.1)

pub places_of-requires : goal.places_of-requires
places_of-requires c = c.narrow.ensures.1

pub returns : goal.returns
returns c =
    let a = c.args in
    let r = of_ratings a.ids.now a.ratings.now in
    let t = too_much (candidates_of a.candidates a.n) a.count in
    answer_given t (ratings_check r) _ _ c.in_default.is c.check.ensures (c.places_of.ensures ∙ ap (λ l. stated (gives (map (λ k. k.place) l))) (c.narrow.ensures.0 ∙ ap (narrowed r (take a.count a.objectives)) c.listed.ensures.0))
