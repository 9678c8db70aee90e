-- What the longest wait and the score depend on.
use Prim.Native.Nat.{ℕ}
use mathlib.Core.Path.{◌≡◌, refl, sym, ap, ◌∙◌}
use mathlib.Core.Bool.{Bool, true, false, true≢false}
use mathlib.Core.List.{List, [], ◌∷◌, ◌++◌, foldl}
use Rattle.std.specs.Prelude.{Option, None, Some, option_map}
use borrow.Author.Tests.{eq-eqb}
use lib.Ieee.{Float, nan, inf, fin, lt, of_bits}
use Rattle.base.specs.Floats as F
use Rattle.base.specs.Lists.{seek, any, All}
use Rattle.base.proofs.Cases.{cases, never}
use Rattle.base.proofs.Order.{lt_asym, lt_irrefl, not_lt_trans}
use Rattle.queue.specs.Queue.{is_of}
use Rattle.queue.specs.Time.{since, seconds_of}
use Rattle.queue.specs.declared.QueueEntry.{QueueEntry}
use Rattle.roster.specs.Roster.{Roster}
use Rattle.matchmaker.specs.Quality.{MatchState, observations}
use Rattle.matchmaker.proofs.Laws.{observations_append}
use Rattle.objective.specs.declared.score.MatchObjective.{MatchObjective}
use Rattle.objective.specs.Score.{longer, waited_seconds, longest_wait, score_of}

-- the longest wait of nobody is 0.0
pub nobody_waits : (clock : ℕ) (queue : List QueueEntry) → longest_wait clock queue [] ≡ F.zero
unfolding observations
nobody_waits clock queue = refl

-- a player's first entry gives their wait, whatever copies stand behind it
pub first_counts : (clock : ℕ) (e : QueueEntry) (queue : List QueueEntry) → waited_seconds clock (e ∷ queue) e.player ≡ Some (seconds_of (since clock e.joined))
unfolding seek
first_counts clock e queue = rw (eq-eqb e.player e.player refl)

-- ---- who isn't queued

-- for base: where p holds of nothing, a search finds nothing
seek_nothing : {A B : Type 0} (p : A → Bool) (f : A → B) (b : B) (xs : List A) → any p xs ≡ false → seek p f b xs ≡ b
unfolding seek
seek_nothing p f b [] h = refl
seek_nothing p f b (x ∷ xs) h =
    cases (p x) (λ t. absurd (true≢false (rw t at h))) (λ k. rw k (seek_nothing p f b xs (rw k at h)))

-- for matchmaker: a player of whom nothing is observed adds nothing
unobserved : {A : Type 0} (g : ℕ → Option A) (ps qs : List ℕ) (p : ℕ) → g p ≡ None → observations g (ps ++ (p ∷ qs)) ≡ observations g (ps ++ qs)
unfolding observations
unobserved g ps qs p h = observations_append g ps (p ∷ qs) ∙ rw h (sym (observations_append g ps qs))

-- a player who isn't queued changes no longest wait, wherever they are seated
pub not_queued : (clock : ℕ) (queue : List QueueEntry) (ps qs : List ℕ) (p : ℕ) → any (is_of p) queue ≡ false → longest_wait clock queue (ps ++ (p ∷ qs)) ≡ longest_wait clock queue (ps ++ qs)
not_queued clock queue ps qs p h =
    let e : waited_seconds clock queue p ≡ None = ap (option_map seconds_of) (seek_nothing (is_of p) _ None queue h) in
    ap (foldl longer F.zero) (unobserved (waited_seconds clock queue) ps qs p e)

-- ---- the longest

abbrev Sound : Float → Type 0
Sound x = x ≡ nan → ⊥

-- what is above something is no NaN
above : (x y : Float) → lt x y ≡ true → Sound y
unfolding lt
above nan y h e = true≢false (sym h)
above (inf s) nan h e = true≢false (sym h)
above (inf s) (inf t) h e = never cc
above (inf s) (fin t n d) h e = never cc
above (fin s m e') nan h e = true≢false (sym h)
above (fin s m e') (inf t) h e = never cc
above (fin s m e') (fin t n d) h e = never cc

-- the longer of two is no NaN, and below neither
longer_tops : (x y : Float) → Sound x → Sound (longer x y) × (lt (longer x y) x ≡ false) × (lt (longer x y) y ≡ false)
unfolding longer
longer_tops x y n =
    cases (lt x y) (λ t. rw t (above x y t, lt_asym x y t, lt_irrefl y)) (λ f. rw f (n, lt_irrefl x, f))

tops : (b : Float) (xs : List Float) → Sound b → Sound (foldl longer b xs) × (lt (foldl longer b xs) b ≡ false) × All (λ x. lt (foldl longer b xs) x ≡ false) xs
tops b [] n = (n, lt_irrefl b, tt)
tops b (x ∷ xs) n =
    let l = longer_tops b x n in
    let r = tops (longer b x) xs l.0 in
    let w = foldl longer (longer b x) xs in
    (r.0, not_lt_trans w (longer b x) b l.0 r.1 l.1, (not_lt_trans w (longer b x) x l.0 r.1 l.2, r.2))

zero_sound : Sound F.zero
unfolding of_bits
zero_sound e = never cc

module _ (clock : ℕ) (queue : List QueueEntry) (ps : List ℕ) where
  -- the longest wait is no NaN
  pub longest_not_nan : longest_wait clock queue ps ≡ nan → ⊥
  longest_not_nan = (tops F.zero (observations (waited_seconds clock queue) ps) zero_sound).0

  -- it is not below 0.0
  pub longest_low : lt (longest_wait clock queue ps) F.zero ≡ false
  longest_low = (tops F.zero (observations (waited_seconds clock queue) ps) zero_sound).1

  -- it is below the wait of nobody
  pub longest_tops : All (λ x. lt (longest_wait clock queue ps) x ≡ false) (observations (waited_seconds clock queue) ps)
  longest_tops = (tops F.zero (observations (waited_seconds clock queue) ps) zero_sound).2

-- ---- what the score reads

-- the score depends on the ids, the ratings and the deviations alone: rosters that agree in these give the same
pub score_of_columns : (o : MatchObjective) (r s : Roster) → r.ids ≡ s.ids → r.ratings ≡ s.ratings → r.deviations ≡ s.deviations → (queue : List QueueEntry) (clock : ℕ) (m : MatchState) → score_of o r queue clock m ≡ score_of o s queue clock m
score_of_columns o r s i k d queue clock m = rw (i, k, d)
