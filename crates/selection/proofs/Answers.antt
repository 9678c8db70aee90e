-- What the answers mean, by the score at each place: greedy's is the last of the best, weighted's is the stable falling order, and
-- a minimum of NaN is reached by nobody.
use Prim.Native.Nat.{ℕ}
use mathlib.Core.Path.{◌≡◌, refl, sym, ap, ◌∙◌}
use mathlib.Core.Bool.{Bool, true, false, cond}
use mathlib.Core.List.{List, [], ◌∷◌, map, map-map, map-id}
use native.Mathlib.Omega.{arith}
use lib.Ieee.{Float, nan, lt, le, eq}
use lib.ListN.{length, take}
use Rattle.base.specs.Lists.{seek, keep, places_from}
use Rattle.base.specs.Ranking.{unrankable, last_best, insert_by, higher, sort_by}
use Rattle.base.specs.Refusals.{Outcome, refused, gives, guarded}
use Rattle.base.proofs.Cases.{never}
use Rattle.base.proofs.Order.{lt_irrefl}
use Rattle.base.proofs.Highest.{Tops, highest, Last, last, best_map}
use Rattle.base.proofs.Sorting.{Permuted, sort_permutes, Sorted, sort_sorts, level, sort_stable, Scored, higher_asym, higher_onward}
use Rattle.ranking.specs.declared.Ranked.{Ranked}
use Rattle.ranking.specs.Order.{ranked_score, numbered}
use Rattle.ranking.proofs.Places.{places, ranked_at, numbered_places, sorted_places, score_at, ranked_sound}
use Rattle.roster.specs.Roster.{Roster, ratings_check}
use Rattle.objective.specs.declared.soft.SoftObjective.{SoftObjective}
use Rattle.objective.specs.declared.pareto.ObjectiveWeights.{ObjectiveWeights}
use Rattle.selection.specs.Selection.{Candidates, too_much, best_of, scores_of, greedy_selection_rule, first_at_least, threshold_rule, skill_scores, falling_places, weighted_rule}

-- ---- GreedySelection

-- p scores as high as anyone, and higher than everyone behind it
pub record Greediest (scores : List Float) (p : ℕ) : Type 0 where
  pub tops : Tops (score_at scores) p (places scores)
  pub last : Last (score_at scores) (places scores) p

best_place : (s : Float) (ss : List Float) {p : ℕ} → best_of (numbered 0 (s ∷ ss)) ≡ p ∷ [] → last_best (score_at (s ∷ ss)) 0 (places_from 1 (length ss)) ≡ p
unfolding places_from
best_place s ss {p} h =
    let g = ranked_at nan (s ∷ ss) in
    let e : numbered 0 (s ∷ ss) ≡ g 0 ∷ map g (places_from 1 (length ss)) = numbered_places nan (s ∷ ss) 0 (length (s ∷ ss)) (omega arith) in
    let m : last_best ranked_score (g 0) (map g (places_from 1 (length ss))) ≡ g (last_best (score_at (s ∷ ss)) 0 (places_from 1 (length ss))) = best_map g ranked_score 0 (places_from 1 (length ss)) in
    let k : last_best (score_at (s ∷ ss)) 0 (places_from 1 (length ss)) ∷ [] ≡ p ∷ [] = sym (ap (λ (x : Ranked). x.place ∷ []) m) ∙ sym (ap best_of e) ∙ h in
    cc

greediest : (scores : List Float) {p : ℕ} → unrankable scores ≡ false → best_of (numbered 0 scores) ≡ p ∷ [] → Greediest scores p
unfolding numbered places_from
greediest [] u h = never cc
greediest (s ∷ []) u h = rw (← best_place s [] h) (record { tops = (lt_irrefl s, tt); last = last (score_at (s ∷ [])) 0 [] })
greediest (s ∷ t ∷ ss) u h =
    let n = ranked_sound s t ss u in
    let qs = places_from 1 (length (t ∷ ss)) in
    rw (← best_place s (t ∷ ss) h)
    (record { tops = highest (score_at (s ∷ t ∷ ss)) 0 qs n.0 n.1; last = last (score_at (s ∷ t ∷ ss)) 0 qs })

-- what an answer that is no refusal tells
given : (t : Bool) (o : Outcome Unit) (u : Bool) {xs ys : List ℕ} → cond t (refused 1) (guarded o (cond u (refused 5) (gives xs))) ≡ gives ys → (u ≡ false) × (xs ≡ ys)
given true o u h = never cc
given false (refused n) u h = never cc
given false (gives v) true h = never cc
given false (gives v) false h = (refl, cc)

-- the one that GreedySelection chooses: no candidate scores higher, and every candidate behind it scores lower
pub greedy_chooses : (r : Roster) (objectives : List SoftObjective) (count : ℕ) (c : Candidates) {p : ℕ} → greedy_selection_rule r objectives count c ≡ gives (p ∷ []) → Greediest (scores_of r (take count objectives) c) p
greedy_chooses r objectives count c h =
    let s = scores_of r (take count objectives) c in
    let g = given (too_much c count) (ratings_check r) (unrankable s) h in
    greediest s g.0 g.1

-- ---- WeightedObjectiveSelection

-- ps are the places of all scores in a stable falling order
pub record Falling (scores : List Float) (ps : List ℕ) : Type 0 where
  -- each place once
  pub all : Permuted (places scores) ps
  -- nobody stands behind a lower score
  pub sorted : Sorted (higher (score_at scores)) ps
  -- equal scores stand in the given order
  pub stable : (q : ℕ) → Scored (score_at scores) q → keep (level (higher (score_at scores)) q) ps ≡ keep (level (higher (score_at scores)) q) (places scores)

falling_places_lem : (scores : List Float) → falling_places scores ≡ sort_by (higher (score_at scores)) (places scores)
falling_places_lem scores =
    let ps = sort_by (higher (score_at scores)) (places scores) in
    ap (map (λ (x : Ranked). x.place)) (sorted_places nan (higher ranked_score) scores) ∙ map-map (λ (x : Ranked). x.place) (ranked_at nan scores) ps ∙ map-id ps

falls : (scores : List Float) → unrankable scores ≡ false → Falling scores (sort_by (higher (score_at scores)) (places scores))
unfolding insert_by places_from
falls [] u = record { all = sort_permutes (higher (score_at [])) []; sorted = tt; stable = λ q n. refl }
falls (s ∷ []) u = record { all = sort_permutes (higher (score_at (s ∷ []))) (0 ∷ []); sorted = (tt, tt); stable = λ q n. refl }
falls (s ∷ t ∷ ss) u =
    let f = score_at (s ∷ t ∷ ss) in
    let ps = places (s ∷ t ∷ ss) in
    let n = ranked_sound s t ss u in
    record {
      all = sort_permutes (higher f) ps;
      sorted = sort_sorts (higher f) (Scored f) (higher_asym f) (higher_onward f) ps n;
      stable = λ q m. sort_stable (higher f) (Scored f) (higher_asym f) (higher_onward f) q ps m n;
    }

-- the answer of WeightedObjectiveSelection is a permutation of all places, by falling score, equal scores in the given order
pub weighted_orders : (r : Roster) (w : ObjectiveWeights) (c : Candidates) {ps : List ℕ} → weighted_rule r w c ≡ gives ps → Falling (skill_scores r w c) ps
weighted_orders r w c h =
    let s = skill_scores r w c in
    let g = given (too_much c 0) (ratings_check r) (unrankable s) h in
    rw (sym g.1 ∙ falling_places_lem s) (falls s g.0)

-- ---- ThresholdSelection

reached_by_none : (y : Float) → le nan y ≡ false
unfolding le lt eq
reached_by_none y = refl

nobody_reaches : (xs : List Ranked) → first_at_least nan xs ≡ []
unfolding seek
nobody_reaches [] = refl
nobody_reaches (x ∷ xs) = rw (reached_by_none x.score) (nobody_reaches xs)

-- a minimum of NaN selects nobody: the answer is a refusal or no place
pub threshold_of_nan : (r : Roster) (objectives : List SoftObjective) (count : ℕ) (c : Candidates) → threshold_rule r nan objectives count c ≡ cond (too_much c count) (refused 1) (guarded (ratings_check r) (gives []))
threshold_of_nan r objectives count c =
    rw (nobody_reaches (numbered 0 (scores_of r (take count objectives) c)))
