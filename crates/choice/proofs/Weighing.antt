-- The best so far, kept over all choices, comes to the full round's choice.
use Prim.Native.Nat.{ℕ, ◌+◌, ◌≤◌}
use mathlib.Core.Path.{◌≡◌, refl, sym, ap, ◌∙◌}
use mathlib.Core.Bool.{Bool, true, false, cond, ◌||◌, or-false}
use mathlib.Core.List.{List, [], ◌∷◌, map, foldl}
use Rattle.std.specs.Prelude.{None, Some}
use native.Mathlib.Nat.{zero-add}
use native.Mathlib.Omega.{arith}
use borrow.Author.Tests.{lt-ltb}
use lib.Dec.{ltb}
use lib.Ieee.{Float, is_nan, lt}
use lib.ListN.{length}
use Rattle.base.specs.Lists.{seek, any, keep}
use Rattle.base.specs.Ranking.{unrankable, better, last_best}
use Rattle.base.specs.Refusals.{refused, gives}
use Rattle.base.proofs.Cases.{cases}
use Rattle.queue.specs.declared.QueueEntry.{QueueEntry}
use Rattle.matchmaker.specs.Quality.{MatchState}
use Rattle.seating.specs.declared.TeamComposition.{TeamComposition}
use Rattle.seating.specs.Seating.{seats_of, lineup}
use Rattle.seating.specs.Steps.{Scored}
use Rattle.candidate.specs.Exhaustive.{exhaustive_matches}
use Rattle.candidate.specs.Walks.{through}
use Rattle.candidate.proofs.Listings.{listing_count, through_split}
use Rattle.choice.specs.Full.{Terms, passes, score_in, passing, best_among, chosen}
use Rattle.choice.specs.Steps.{SoFar, unweighed, or_better, passed, skipped, weighed, concluding}

-- of two tests and a third, in one order or the other
or_assoc : (a b c : Bool) → ((a || b) || c) ≡ (a || cond b true c)
or_assoc true b c = refl
or_assoc false true c = refl
or_assoc false false c = refl

-- does the list have an element?
abbrev occupied : {A : Type 0} → List A → Bool
occupied [] = false
occupied (x ∷ xs) = true

-- two or more: one, and another behind it
occupied_many : (score : MatchState → Float) (m : MatchState) (ms : List MatchState) → ltb 1 (length (map score (m ∷ ms))) ≡ occupied ms
occupied_many score m [] = refl
occupied_many score m (n ∷ ms) = lt-ltb 1 (length (map score (m ∷ n ∷ ms))) (omega arith)

module _ (t : Terms) (queue : List QueueEntry) where
  -- a match with its score
  abbrev scored : MatchState → Scored
  scored m = record { teams = m; score = score_in t m }

  -- the one that is kept is the better one with its score
  better_scored : (b m : MatchState) → or_better (Some (scored b)) (scored m) ≡ scored (better (score_in t) b m)
  better_scored b m = cases (lt (score_in t m) (score_in t b)) (λ e. rw e) (λ e. rw e)

  -- one more choice that passes is weighed against the best
  pub weighed_passed : (b : SoFar) (m : MatchState) → passes t queue m ≡ true → weighed t queue b m ≡ passed b m (score_in t m)
  unfolding weighed
  weighed_passed b m y = rw y

  -- one more that does not pass is only counted
  pub weighed_skipped : (b : SoFar) (m : MatchState) → passes t queue m ≡ false → weighed t queue b m ≡ skipped b
  unfolding weighed
  weighed_skipped b m f = rw f

  -- what is known when n were tried: b was the best, with `many` and `nan` of all so far, and these passed behind it
  abbrev known : ℕ → MatchState → Bool → Bool → List MatchState → SoFar
  known n b many nan ms =
      record {
        tried = n;
        best = Some (scored (last_best (score_in t) b ms));
        many = many || occupied ms;
        nan = nan || any is_nan (map (score_in t) ms);
      }

  -- one more that passed, weighed first or listed with those behind it
  known_more : (n : ℕ) (b m : MatchState) (many nan : Bool) (ms : List MatchState) → known n (better (score_in t) b m) (many || true) (nan || is_nan (score_in t m)) ms ≡ known n b many nan (m ∷ ms)
  unfolding seek
  known_more n b m many nan ms =
      rw (or_assoc many true (occupied ms), or_assoc nan (is_nan (score_in t m)) (any is_nan (map (score_in t) ms)))

  -- none passed behind b
  known_all : (n : ℕ) (b : MatchState) (many nan : Bool) → known n b many nan [] ≡ record { tried = n; best = Some (scored b); many = many; nan = nan }
  unfolding seek
  known_all n b many nan = rw (or-false many, or-false nan)

  -- b is the best so far: what these matches add
  weighed_more : (ms : List MatchState) (n : ℕ) (b : MatchState) (many nan : Bool)
      → foldl (weighed t queue) (record { tried = n; best = Some (scored b); many = many; nan = nan }) ms ≡ known (n + length ms) b many nan (keep (passes t queue) ms)
  unfolding keep
  weighed_more [] n b many nan =
      let e : n + 0 ≡ n = omega arith in
      rw e (sym (known_all n b many nan))
  weighed_more (m ∷ ms) n b many nan =
      let e : n + 1 + length ms ≡ n + length (m ∷ ms) = omega arith in
      let p : SoFar = record { tried = n; best = Some (scored b); many = many; nan = nan } in
      let k = keep (passes t queue) ms in
      cases (passes t queue m)
      (λ y.
      ap (λ (q : SoFar). foldl (weighed t queue) q ms)
      (weighed_passed p m y ∙ ap (λ (x : Scored). record { tried = n + 1; best = Some x; many = many || true; nan = nan || is_nan (score_in t m) }) (better_scored b m))
      ∙ weighed_more ms (n + 1) (better (score_in t) b m) (many || true) (nan || is_nan (score_in t m))
      ∙ known_more (n + 1 + length ms) b m many nan k
      ∙ rw (e, y))
      (λ f. ap (λ (q : SoFar). foldl (weighed t queue) q ms) (weighed_skipped p m f) ∙ weighed_more ms (n + 1) b many nan ∙ rw (e, f))

  -- what is known when n were tried and these passed
  abbrev seen : ℕ → List MatchState → SoFar
  seen n [] = record { tried = n; best = None; many = false; nan = false }
  seen n (m ∷ ms) = known n m false (is_nan (score_in t m)) ms

  -- none passed so far: what these matches come to
  weighed_all : (ms : List MatchState) (n : ℕ) → foldl (weighed t queue) (seen n []) ms ≡ seen (n + length ms) (keep (passes t queue) ms)
  unfolding keep
  weighed_all [] n =
      let e : n + 0 ≡ n = omega arith in
      rw e
  weighed_all (m ∷ ms) n =
      let e : n + 1 + length ms ≡ n + length (m ∷ ms) = omega arith in
      cases (passes t queue m)
      (λ y.
      ap (λ (q : SoFar). foldl (weighed t queue) q ms) (weighed_passed (seen n []) m y)
      ∙ weighed_more ms (n + 1) m false (is_nan (score_in t m))
      ∙ rw (e, y))
      (λ f. ap (λ (q : SoFar). foldl (weighed t queue) q ms) (weighed_skipped (seen n []) m f) ∙ weighed_all ms (n + 1) ∙ rw (e, f))

  -- the conclusion from it: refusal 5, or the last of the best of those that passed
  concluding_seen : (n : ℕ) (ms : List MatchState) → concluding (seen n ms) ≡ cond (unrankable (map (score_in t) ms)) (refused 5) (gives (record { best = best_among (score_in t) ms; tried = n }))
  unfolding concluding seek
  concluding_seen n [] = refl
  concluding_seen n (m ∷ ms) = rw (occupied_many (score_in t) m ms, or_assoc false (is_nan (score_in t m)) (any is_nan (map (score_in t) ms)))

-- the best kept while all choices are walked, from nobody seated, is what the full round chooses
pub best_plain : (t : Terms) (s : TeamComposition) (queue : List QueueEntry) → s.a ≤ 8 → s.b ≤ 8
    → concluding (through s (weighed t queue) (lineup [] []) (seats_of s) (map (λ e. e.player) queue) unweighed) ≡ chosen t s queue
best_plain t s queue h g =
    ap concluding (through_split s (weighed t queue) queue unweighed h g)
    ∙ ap concluding (weighed_all t queue (exhaustive_matches s queue) 0)
    ∙ concluding_seen t queue (0 + length (exhaustive_matches s queue)) (passing t s queue)
    ∙ rw (zero-add (length (exhaustive_matches s queue)), listing_count s queue)
