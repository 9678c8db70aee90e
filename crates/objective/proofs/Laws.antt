-- The laws of objectives: vectors, waits, sums and answers.
use Prim.Native.Nat.{ℕ}
use mathlib.Core.Path.{◌≡◌, refl, ap, ◌∙◌}
use mathlib.Core.Bool.{true, false}
use mathlib.Core.List.{List, [], ◌∷◌, ◌++◌, foldl}
use Rattle.std.specs.Prelude.{Option}
use lib.Dec.{ltb}
use lib.Ieee.{Float, binary64, add, lt}
use lib.ListN.{length, take}
use Rattle.base.specs.Floats.{zero}
use Rattle.std.specs.List.{zip}
use Rattle.base.specs.Lists.{seek, any}
use Rattle.base.specs.Refusals.{Outcome, refused, gives, guarded, refusal_number, outcome_of}
use Rattle.std.specs.Prelude.{Result}
use Rattle.std.specs.Prelude.{Ok, Err}
use Rattle.base.specs.declared.Refusal.{Refusal}
use Rattle.queue.specs.Time.{time_over}
use Rattle.queue.specs.Queue.{QueueState, joined_over}
use Rattle.queue.specs.declared.QueueEntry.{QueueEntry}
use Rattle.roster.specs.Roster.{Roster, rating_of, deviation_of, ratings_check, deviations_check}
use Rattle.matchmaker.specs.Quality.{MatchState, overfull, seated, observations, average_from, quality_of}
use Rattle.base.proofs.Cases.{cases}
use Rattle.base.proofs.Loops.{fold_append}
use Rattle.base.proofs.Checks.{guard_refuses, guard_passes}
use Rattle.matchmaker.proofs.Laws.{observations_append}
use Rattle.objective.specs.declared.pareto.MatchObjectiveVector.{MatchObjectiveVector}
use Rattle.objective.specs.declared.score.MatchObjective.{MatchObjective}
use Rattle.objective.specs.declared.soft.SoftObjective.{SoftObjective}
use Rattle.objective.specs.Pareto.{any_below, against, dominates_of}
use Rattle.objective.specs.Score.{longer, waited_seconds, score_from, score_of, score_rule}
use Rattle.objective.specs.Soft.{latency_at, latency_of, soft_value_of, soft_value_rule, soft_score_of, soft_score_rule}

-- ---- vectors

-- a pair of floats, the first below the second, decides
pub below_zip : (xs ys : List Float) → any (λ (p : Float × Float). lt p.0 p.1) (zip xs ys) ≡ any_below xs ys
unfolding seek any_below
below_zip [] ys = refl
below_zip (x ∷ xs) [] = refl
below_zip (x ∷ xs) (y ∷ ys) = cases (lt x y) (λ t. rw t) (λ f. rw f (below_zip xs ys))

-- one that is below somewhere does not dominate
pub not_worse : (v w : MatchObjectiveVector) → any_below (against v w) (against w v) ≡ true → false ≡ dominates_of v w
unfolding dominates_of
not_worse v w h = rw h

-- one that is below nowhere dominates where the other is below somewhere
pub better_where : (v w : MatchObjectiveVector) → any_below (against v w) (against w v) ≡ false → any_below (against w v) (against v w) ≡ dominates_of v w
unfolding dominates_of
better_where v w h = rw h

-- ---- sums and waits over both teams

module _ {A B : Type 0} (f : B → A → B) (g : ℕ → Option A) where
  -- a fold over team A, then on over team B, is the fold over everyone seated
  pub fold_teams : (b : B) (ps qs : List ℕ) {c d : B} → c ≡ foldl f b (observations g ps) → d ≡ foldl f c (observations g qs) → d ≡ foldl f b (observations g (ps ++ qs))
  fold_teams b ps qs h k =
      rw (observations_append g ps qs, fold_append f b (observations g ps) (observations g qs), ← h) k

-- the latency of the sum of everyone's ratings, and the seats
pub latency_known : (r : Roster) (m : MatchState) {s t : Float} {n : ℕ} → s ≡ foldl (add binary64) zero (observations (rating_of r) m.a.players) → t ≡ foldl (add binary64) s (observations (rating_of r) m.b.players) → n ≡ length (seated m) → latency_at (average_from t n) ≡ latency_of r m
latency_known r m h k e =
    rw (e, fold_teams (add binary64) (rating_of r) zero m.a.players m.b.players h k)

-- the score of a match of which every part is known
module _ (o : MatchObjective) (r : Roster) (queue : List QueueEntry) (clock : ℕ) (m : MatchState) where
  pub score_known : {q v w s t : Float} {n : ℕ} → q ≡ quality_of r m.a.players m.b.players → v ≡ foldl longer zero (observations (waited_seconds clock queue) m.a.players) → w ≡ foldl longer v (observations (waited_seconds clock queue) m.b.players) → s ≡ foldl (add binary64) zero (observations (deviation_of r) m.a.players) → t ≡ foldl (add binary64) s (observations (deviation_of r) m.b.players) → n ≡ length (seated m) → score_from o q w t n ≡ score_of o r queue clock m
  score_known q v w s t n =
      let x = fold_teams longer (waited_seconds clock queue) zero m.a.players m.b.players v w in
      let y = fold_teams (add binary64) (deviation_of r) zero m.a.players m.b.players s t in
      rw (q, x, y, n)

-- ---- answers

-- a check that passes leaves the answer to what comes behind it
passed : {A : Type 0} {o : Outcome Unit} {x v : Outcome A} (k : Result Unit Refusal) → k ≡ Ok tt → outcome_of k ≡ o → x ≡ v → x ≡ guarded o v
passed k e h i = i ∙ guard_passes _ k e h

module _ (o : MatchObjective) (r : Roster) (q : QueueState) (clock : ℕ) (m : MatchState) where
  -- a team over 8: 1
  pub score_overfull : overfull m ≡ true → refused 1 ≡ score_rule o r q clock m
  score_overfull t = rw t

  module _ (a : overfull m ≡ false) where
    -- a queue over 64: 1
    pub score_long : ltb 64 q.size ≡ true → refused 1 ≡ score_rule o r q clock m
    score_long t = rw (a, t)

    module _ (b : ltb 64 q.size ≡ false) (k : Result Unit Refusal) (h : outcome_of k ≡ deviations_check r) where
      -- what the roster's check refuses, by its number
      pub score_roster : {x : Refusal} → k ≡ Err x → refused (refusal_number x) ≡ score_rule o r q clock m
      score_roster e = rw (a, b) (guard_refuses _ k e h)

      module _ (e : k ≡ Ok tt) where
        -- a clock above 2^53: 4
        pub score_clock : time_over clock ≡ true → refused 4 ≡ score_rule o r q clock m
        score_clock t = rw (a, b) (passed k e h (rw t))

        module _ (c : time_over clock ≡ false) where
          -- a joined time above 2^53: 4
          pub score_joined : any joined_over q.entries ≡ true → refused 4 ≡ score_rule o r q clock m
          score_joined t = rw (a, b) (passed k e h (rw (c, t)))

          -- else the score
          pub score_given_lem : any joined_over q.entries ≡ false → {s : Float} → s ≡ score_of o r q.entries clock m → gives s ≡ score_rule o r q clock m
          score_given_lem f s = rw (a, b) (passed k e h (rw (c, f, s)))

module _ (r : Roster) (m : MatchState) (o : SoftObjective) where
  -- a team over 8: 1
  pub value_overfull : overfull m ≡ true → refused 1 ≡ soft_value_rule r m o
  value_overfull t = rw t

  module _ (a : overfull m ≡ false) (k : Result Unit Refusal) (h : outcome_of k ≡ ratings_check r) where
    -- what the roster's check refuses, by its number
    pub value_roster : {x : Refusal} → k ≡ Err x → refused (refusal_number x) ≡ soft_value_rule r m o
    value_roster e = rw a (guard_refuses _ k e h)

    -- else the value
    pub value_given : k ≡ Ok tt → {s : Float} → s ≡ soft_value_of r m o → gives s ≡ soft_value_rule r m o
    value_given e s = rw a (passed k e h (ap gives s))

module _ (r : Roster) (m : MatchState) (objectives : List SoftObjective) (count : ℕ) where
  -- a team over 8: 1
  pub soft_overfull : overfull m ≡ true → refused 1 ≡ soft_score_rule r m objectives count
  soft_overfull t = rw t

  module _ (a : overfull m ≡ false) where
    -- more than 8 objectives: 1
    pub soft_long : ltb 8 count ≡ true → refused 1 ≡ soft_score_rule r m objectives count
    soft_long t = rw (a, t)

    module _ (b : ltb 8 count ≡ false) (k : Result Unit Refusal) (h : outcome_of k ≡ ratings_check r) where
      -- what the roster's check refuses, by its number
      pub soft_roster : {x : Refusal} → k ≡ Err x → refused (refusal_number x) ≡ soft_score_rule r m objectives count
      soft_roster e = rw (a, b) (guard_refuses _ k e h)

      -- else the score
      pub soft_given : k ≡ Ok tt → {s : Float} → s ≡ soft_score_of r m (take count objectives) → gives s ≡ soft_score_rule r m objectives count
      soft_given e s = rw (a, b) (passed k e h (ap gives s))
