-- The laws of teams, of sums over teams, and of the answers of `match_quality`.
use Rattle.std.proofs.Common.{◌≡◌, ℕ, max, true, false, List, [], ◌∷◌, ◌++◌, pos, sym, refl, ap, ◌∙◌}
use mathlib.Core.List.{foldl}
use Rattle.std.specs.Prelude.{Option, None, Some}
use lib.Ieee.{Float, binary64, add, div, of_int}
use Rattle.base.specs.Refusals.{refused, gives, refusal_number, outcome_of}
use Rattle.std.specs.Prelude.{Result}
use Rattle.std.specs.Prelude.{Ok, Err}
use Rattle.base.specs.declared.Refusal.{Refusal}
use Rattle.base.proofs.Checks.{guard_refuses, guard_passes}
use Rattle.base.proofs.Loops.{fold_append}
use Rattle.roster.specs.Roster.{Roster, ratings_check}
use Rattle.matchmaker.specs.Quality.{MatchState, overfull, cons_some, observations, average_from, quality_of, quality_rule}
use Rattle.matchmaker.specs.Steps.{absorb}

-- ---- sums

module _ {A B : Type 0} (f : B → A → B) where
  -- an observation taken in before the others
  absorb_first : (b : B) (o : Option A) (xs : List A) → foldl f (absorb f b o) xs ≡ foldl f b (cons_some o xs)
  absorb_first b None xs = refl
  absorb_first b (Some x) xs = refl

  -- taking in what is observed of each player in turn is folding the observations
  pub fold_observations : (g : ℕ → Option A) (b : B) (ps : List ℕ) → foldl (λ b p. absorb f b (g p)) b ps ≡ foldl f b (observations g ps)
  unfolding observations
  fold_observations g b [] = refl
  fold_observations g b (p ∷ ps) = fold_observations g (absorb f b (g p)) ps ∙ absorb_first b (g p) (observations g ps)

module _ {A : Type 0} (g : ℕ → Option A) where
  cons_some_append : (o : Option A) (xs ys : List A) → cons_some o (xs ++ ys) ≡ cons_some o xs ++ ys
  cons_some_append None xs ys = refl
  cons_some_append (Some x) xs ys = refl

  -- what is observed of two rows of players is what is observed of the first, then of the second
  pub observations_append : (ps qs : List ℕ) → observations g (ps ++ qs) ≡ observations g ps ++ observations g qs
  unfolding observations
  observations_append [] qs = refl
  observations_append (p ∷ ps) qs = ap (cons_some (g p)) (observations_append ps qs) ∙ cons_some_append (g p) (observations g ps) (observations g qs)

  -- one more player behind the others is one more step of the fold, or none where nothing is observed of that player
  pub fold_snoc : {B : Type 0} (f : B → A → B) (b : B) (ps : List ℕ) (p : ℕ) → foldl f b (observations g (ps ++ (p ∷ []))) ≡ absorb f (foldl f b (observations g ps)) (g p)
  unfolding observations
  fold_snoc f b ps p =
      rw (observations_append ps (p ∷ []), fold_append f b (observations g ps) (observations g (p ∷ [])))
      (sym (absorb_first f (foldl f b (observations g ps)) (g p) []))

-- one more player changes a running sum by one addition at most
pub sum_snoc : (g : ℕ → Option Float) (s : Float) (ps : List ℕ) (p : ℕ) → foldl (add binary64) s (observations g (ps ++ (p ∷ []))) ≡ absorb (add binary64) (foldl (add binary64) s (observations g ps)) (g p)
sum_snoc g = fold_snoc g (add binary64)

-- the divisor is the length, or 1 where that is 0
pub averaged : (sum : Float) (len n : ℕ) → n ≡ max len 1 → div binary64 sum (of_int binary64 (pos n)) ≡ average_from sum len
unfolding average_from
averaged sum len n e = ap (λ (k : ℕ). div binary64 sum (of_int binary64 (pos k))) e

-- ---- answers

module _ (r : Roster) (m : MatchState) where
  -- a team over 8: 1
  pub over_limit : overfull m ≡ true → refused 1 ≡ quality_rule r m
  over_limit o = rw o

  -- what the roster's check refuses, by its number
  pub bad_roster : overfull m ≡ false → (k : Result Unit Refusal) {x : Refusal} → k ≡ Err x → outcome_of k ≡ ratings_check r → refused (refusal_number x) ≡ quality_rule r m
  bad_roster o k e h = rw o (guard_refuses _ k e h)

  -- else the quality
  pub rated : overfull m ≡ false → (k : Result Unit Refusal) → k ≡ Ok tt → outcome_of k ≡ ratings_check r → {q : Float} → q ≡ quality_of r m.a.players m.b.players → gives q ≡ quality_rule r m
  rated o k e h q = rw o (ap gives q ∙ guard_passes _ k e h)

-- the quality depends on the ids and the ratings alone: rosters that agree in these give the same
pub quality_of_columns : (r s : Roster) → r.ids ≡ s.ids → r.ratings ≡ s.ratings → (a b : List ℕ) → quality_of r a b ≡ quality_of s a b
quality_of_columns r s i k a b = rw (i, k)
