-- The order of the nearest generator: where it gives matches, all entries stand by rising rating, equal ratings in queue order.
use Prim.Native.Nat.{ℕ}
use mathlib.Core.Path.{◌≡◌, refl}
use mathlib.Core.Bool.{Bool, true, false, not, cond, ◌&&◌}
use mathlib.Core.List.{List, [], ◌∷◌, map}
use lib.Dec.{ltb, eqb}
use lib.Ieee.{Float, nan}
use lib.ListN.{length}
use Rattle.base.specs.Lists.{keep, All}
use Rattle.base.specs.Ranking.{unrankable, insert_by, lower}
use Rattle.base.specs.Floats as Floats
use Rattle.base.specs.Refusals.{Outcome, refused, gives, guarded}
use Rattle.base.proofs.Cases.{never}
use Rattle.base.proofs.Nan.{rankable_sound}
use Rattle.base.proofs.Sorting.{Permuted, sort_permutes, Sorted, sort_sorts, level, sort_stable, Scored, lower_asym, lower_onward}
use Rattle.queue.specs.declared.QueueEntry.{QueueEntry}
use Rattle.queue.specs.Queue.{QueueState}
use Rattle.roster.specs.Roster.{Roster}
use Rattle.matchmaker.specs.Quality.{MatchState}
use Rattle.seating.specs.declared.TeamComposition.{TeamComposition}
use Rattle.seating.specs.Seating.{Sheets, seats_of, handed_out}
use Rattle.seating.specs.Searching.{search_check}
use Rattle.candidate.specs.Nearest.{rating_for, rising, nearest_matches, nearest_rule}

-- es are the entries of the queue in a stable rising order
pub record Rising (r : Roster) (queue es : List QueueEntry) : Type 0 where
  -- each entry once
  pub all : Permuted queue es
  -- nobody stands behind a higher rating
  pub sorted : Sorted (lower (rating_for r)) es
  -- equal ratings stand in queue order
  pub stable : (e : QueueEntry) → Scored (rating_for r) e → keep (level (lower (rating_for r)) e) es ≡ keep (level (lower (rating_for r)) e) queue

unmade : {A B : Type 0} (P : B → Type 0) (f : A → B) (xs : List A) → All P (map f xs) → All (λ x. P (f x)) xs
unmade P f [] a = tt
unmade P f (x ∷ xs) a = (a.0, unmade P f xs a.1)

rises : (r : Roster) (queue : List QueueEntry) → unrankable (map (rating_for r) queue) ≡ false → Rising r queue (rising r queue)
unfolding insert_by
rises r [] u = record { all = sort_permutes (lower (rating_for r)) []; sorted = tt; stable = λ e n. refl }
rises r (x ∷ []) u = record { all = sort_permutes (lower (rating_for r)) (x ∷ []); sorted = (tt, tt); stable = λ e n. refl }
rises r (x ∷ y ∷ es) u =
    let f = rating_for r in
    let n : All (Scored f) (x ∷ y ∷ es) = unmade (λ v. v ≡ nan → ⊥) f (x ∷ y ∷ es) (rankable_sound (f x) (f y) (map f es) u) in
    record {
      all = sort_permutes (lower f) (x ∷ y ∷ es);
      sorted = sort_sorts (lower f) (Scored f) (lower_asym f) (lower_onward f) (x ∷ y ∷ es) n;
      stable = λ e m. sort_stable (lower f) (Scored f) (lower_asym f) (lower_onward f) e (x ∷ y ∷ es) m n;
    }

-- what an answer that is no refusal tells
given : (quality : MatchState → Float) (s : Sheets) (o : Outcome Unit) (z t u : Bool) (ms : List MatchState) {n : ℕ} → (handed_out quality (guarded o (cond z (refused 12) (cond (not t && u) (refused 5) (gives ms)))) s).answer ≡ gives n → t ≡ false → u ≡ false
given quality s (refused i) z t u ms h e = never cc
given quality s (gives v) true t u ms h e = never cc
given quality s (gives v) false true u ms h e = never cc
given quality s (gives v) false false true ms h e = never cc
given quality s (gives v) false false false ms h e = refl

-- where matches are given and as many wait as a match seats, the row that is cut is the queue by rising rating
pub nearest_rises : (limit : ℕ) (s : TeamComposition) (r : Roster) (q : QueueState) (sheets : Sheets) {n : ℕ} → (nearest_rule limit s r q sheets).answer ≡ gives n → ltb (length q.entries) (seats_of s) ≡ false → Rising r q.entries (rising r q.entries)
nearest_rises limit s r q sheets h e =
    rises r q.entries
    (given (λ m. Floats.zero) sheets (search_check s r q (length sheets.players) (length sheets.qualities)) (eqb (seats_of s) 0) (ltb (length q.entries) (seats_of s)) (unrankable (map (rating_for r) q.entries)) (nearest_matches limit s r q.entries) h e)
