-- Laws of the four selections over plain lists: what a turn of each loop does, and one law for each answer.
use Prim.Native.Nat.{ℕ, ◌+◌, ◌≤◌, ◌<◌}
use mathlib.Core.Path.{◌≡◌, refl, sym, ap, ◌∙◌}
use mathlib.Core.Bool.{Bool, true, false, cond}
use mathlib.Core.List.{List, [], ◌∷◌, ◌++◌, map, foldl, append-nil, map-append}
use native.Mathlib.Numerals.{add-one}
use borrow.Author.Tests.{ltb-false}
use lib.Dec.{ltb, eqb}
use lib.Ieee.{Float, nan, inf, binary64, lt, le, neg, div, of_bits}
use lib.ListN.{length, take, drop, get_or, set, length-map, drop_of_length-le}
use lib.Seq.{append_snoc, length-take-le}
use Rattle.base.specs.Floats as F
use Rattle.base.specs.Refusals.{Outcome, refused, gives, guarded, refusal_number, outcome_of}
use Rattle.std.specs.Prelude.{Result}
use Rattle.std.specs.Prelude.{Ok, Err}
use Rattle.base.specs.declared.Refusal.{Refusal}
use Rattle.base.specs.Lists.{seek, any, keep}
use Rattle.base.specs.Ranking.{unrankable, better, last_best}
use Rattle.base.proofs.Cases.{cases, never}
use Rattle.base.proofs.Arrays.{peel, peeled, push}
use Rattle.base.proofs.Checks.{guard_refuses, guard_passes}
use Rattle.ranking.specs.declared.Ranked.{Ranked}
use Rattle.ranking.specs.Order.{ranked, ranked_score, numbered}
use Rattle.ranking.proofs.Laws.{numbered_on, numbered_end}
use Rattle.roster.specs.Roster.{Roster}
use Rattle.matchmaker.specs.declared.ProposedMatch.{ProposedMatch}
use Rattle.matchmaker.specs.Quality.{match_of, overfull}
use Rattle.objective.specs.declared.soft.SoftObjective.{SoftObjective}
use Rattle.selection.specs.declared.lexicographic.Candidate.{Candidate}
use Rattle.selection.specs.Selection.{Candidates, SelectedState, stated, too_much, best_of, first_at_least, StillIn, placed, near_best, narrowed}
use Rattle.selection.specs.Steps.{still_in_of}

-- ---- for base

module _ {A B : Type 0} (f : A → B) where
  -- to keep of what f makes is to keep first
  pub keep_map : (p : B → Bool) (xs : List A) → map f (keep (λ x. p (f x)) xs) ≡ keep p (map f xs)
  unfolding keep
  keep_map p [] = refl
  keep_map p (x ∷ xs) = cases (p (f x)) (λ t. rw t (ap (λ (r : List B). f x ∷ r) (keep_map p xs))) (λ k. rw k (keep_map p xs))

  -- p holds of something that f makes where it does of what it is made of
  pub any_map : (p : B → Bool) (xs : List A) → any (λ x. p (f x)) xs ≡ any p (map f xs)
  unfolding seek
  any_map p [] = refl
  any_map p (x ∷ xs) = ap (cond (p (f x)) true) (any_map p xs)

  -- a fold over what f makes
  pub fold_map : {C : Type 0} (g : C → B → C) (c : C) (xs : List A) → foldl (λ (r : C) (x : A). g r (f x)) c xs ≡ foldl g c (map f xs)
  fold_map g c [] = refl
  fold_map g c (x ∷ xs) = fold_map g (g c (f x)) xs

-- nothing is left to fold at the end: `fold_end`, without a default element to name
pub fold_over : {A B : Type 0} (f : B → A → B) (xs : List A) (i : ℕ) (b : B) → length xs ≤ i → foldl f b (drop i xs) ≡ b
fold_over f xs i b h = rw (drop_of_length-le xs h)

-- a check's first refusal stands before the others
module _ (t : Bool) (o : Outcome Unit) (v : Outcome (List ℕ)) where
  first_refused : guarded (cond t (refused 1) o) v ≡ cond t (refused 1) (guarded o v)
  first_refused = cases t (λ y. rw y) (λ n. rw n)

  -- where the check refuses, so does the answer
  pub answer_refused : (k : Result Unit Refusal) {s : SelectedState} {x : Refusal} → k ≡ Err x → outcome_of k ≡ cond t (refused 1) o → s ≡ stated (refused (refusal_number x)) → s ≡ stated (cond t (refused 1) (guarded o v))
  answer_refused k e h a = a ∙ ap stated (guard_refuses v k e h ∙ first_refused)

  -- where it passes, the answer is what comes behind it
  pub answer_given : (k : Result Unit Refusal) {s : SelectedState} → k ≡ Ok tt → outcome_of k ≡ cond t (refused 1) o → s ≡ stated v → s ≡ stated (cond t (refused 1) (guarded o v))
  answer_given k e h a = a ∙ ap stated (guard_passes v k e h ∙ first_refused)

-- an answer that states as many places as the list has
pub counted : {n : ℕ} {xs ys : List ℕ} → n ≡ length ys → xs ≡ ys → record { size = n; places = gives xs } ≡ stated (gives ys)
counted e h = rw (e, h)

-- ---- the check, and refusal 5

-- a check that passes tells that there are no more than 64 candidates and 8 objectives
pub passed_fits : (c : Candidates) (m : ℕ) (o : Outcome Unit) (k : Result Unit Refusal) → k ≡ Ok tt → outcome_of k ≡ cond (too_much c m) (refused 1) o → (c.size ≤ 64) × (m ≤ 8)
passed_fits c m o k e h =
    cases (ltb 64 c.size) (λ y. never (no (rw (e, y) at h)))
    (λ f. cases (any overfull c.matches) (λ y. never (no (rw (e, f, y) at h)))
    (λ g. cases (ltb 8 m) (λ y. never (no (rw (e, f, g, y) at h))) (λ l. (ltb-false 64 c.size f, ltb-false 8 m l))))
  where
    no : {i : ℕ} {u : Unit} → ◌≡◌ {A = Outcome Unit} (gives u) (refused i) → ◌≡◌ {A = ℕ} 0 1
    no p = cc

-- what a ranking answers: refusal 5, or what f makes of the scores
abbrev pub ranked_rule : (List Float → List ℕ) → List Float → Outcome (List ℕ)
ranked_rule f scores = cond (unrankable scores) (refused 5) (gives (f scores))

-- behind a check that passes, `scores` being the first of an array that hold them
module _ (t : Bool) (o : Outcome Unit) (f : List Float → List ℕ) {held scores : List Float} (same : held ≡ scores) (k : Result Unit Refusal) (e : k ≡ Ok tt) (h : outcome_of k ≡ cond t (refused 1) o) where
  -- scores that cannot be ranked: 5
  pub ranked_refused : {s : SelectedState} → unrankable held ≡ true → s ≡ stated (refused 5) → s ≡ stated (cond t (refused 1) (guarded o (ranked_rule f scores)))
  ranked_refused u a =
      let q : refused 5 ≡ ranked_rule f held = rw u in
      answer_given t o (ranked_rule f scores) k e h (a ∙ ap stated (q ∙ ap (ranked_rule f) same))

  -- any others are
  pub ranked_given : {s : SelectedState} → unrankable held ≡ false → s ≡ stated (gives (f held)) → s ≡ stated (cond t (refused 1) (guarded o (ranked_rule f scores)))
  ranked_given u a =
      let q : gives (f held) ≡ ranked_rule f held = rw u in
      answer_given t o (ranked_rule f scores) k e h (a ∙ ap stated (q ∙ ap (ranked_rule f) same))

-- ---- numbered scores

module _ (es : List Float) (n i : ℕ) (fits : n ≤ length es) where
  -- a score that reaches the minimum is the first
  pub first_hit : (m : Float) → first_at_least m (numbered 0 (take n es)) ≡ first_at_least m (numbered i (drop i (take n es))) → i < n → le m (get_or es i nan) ≡ true → i ∷ [] ≡ first_at_least m (numbered 0 (take n es))
  unfolding seek
  first_hit m inv h t = sym (inv ∙ rw (numbered_on es n i fits h, t))

  -- any other leaves it to the rest
  pub first_on : (m : Float) → first_at_least m (numbered 0 (take n es)) ≡ first_at_least m (numbered i (drop i (take n es))) → i < n → le m (get_or es i nan) ≡ false → first_at_least m (numbered 0 (take n es)) ≡ first_at_least m (numbered (i + 1) (drop (i + 1) (take n es)))
  unfolding seek
  first_on m inv h t = inv ∙ rw (numbered_on es n i fits h, t)

  -- none reaches it
  pub first_none : (m : Float) → first_at_least m (numbered 0 (take n es)) ≡ first_at_least m (numbered i (drop i (take n es))) → n ≤ i → i ≤ n → [] ≡ first_at_least m (numbered 0 (take n es))
  unfolding seek
  first_none m inv h k = sym (inv ∙ rw (numbered_end es n i fits h k))

  -- the best so far stays before a lower score
  pub best_stays : {w : Ranked} (best : ℕ) → last_best ranked_score (ranked best (get_or es best nan)) (numbered i (drop i (take n es))) ≡ w → i < n → lt (get_or es i nan) (get_or es best nan) ≡ true → last_best ranked_score (ranked best (get_or es best nan)) (numbered (i + 1) (drop (i + 1) (take n es))) ≡ w
  best_stays best inv h t =
      let e : better ranked_score (ranked best (get_or es best nan)) (ranked i (get_or es i nan)) ≡ ranked best (get_or es best nan) = rw t in
      sym (ap (λ (x : Ranked). last_best ranked_score x (numbered (i + 1) (drop (i + 1) (take n es)))) e) ∙ (rw (numbered_on es n i fits h) at inv)

  -- and gives way to any other
  pub best_turns : {w : Ranked} (best : ℕ) → last_best ranked_score (ranked best (get_or es best nan)) (numbered i (drop i (take n es))) ≡ w → i < n → lt (get_or es i nan) (get_or es best nan) ≡ false → last_best ranked_score (ranked i (get_or es i nan)) (numbered (i + 1) (drop (i + 1) (take n es))) ≡ w
  best_turns best inv h t =
      let e : better ranked_score (ranked best (get_or es best nan)) (ranked i (get_or es i nan)) ≡ ranked i (get_or es i nan) = rw t in
      sym (ap (λ (x : Ranked). last_best ranked_score x (numbered (i + 1) (drop (i + 1) (take n es)))) e) ∙ (rw (numbered_on es n i fits h) at inv)

-- the best of all is the last of the best
pub best_end : (es : List Float) (n i best : ℕ) → n ≤ length es → last_best ranked_score (ranked best (get_or es best nan)) (numbered i (drop i (take n es))) ≡ last_best ranked_score (ranked 0 (get_or es 0 nan)) (numbered 1 (drop 1 (take n es))) → 0 < n → n ≤ i → i ≤ n → best ∷ [] ≡ best_of (numbered 0 (take n es))
best_end es n i best fits inv some h k =
    let e : ranked best (get_or es best nan) ≡ last_best ranked_score (ranked 0 (get_or es 0 nan)) (numbered 1 (drop 1 (take n es))) = rw (numbered_end es n i fits h k) at inv in
    let w : numbered 0 (take n es) ≡ ranked 0 (get_or es 0 nan) ∷ numbered 1 (drop 1 (take n es)) = numbered_on es n 0 fits some in
    ap (λ (x : Ranked). x.place ∷ []) e ∙ ap best_of (sym w)

-- there is no best of none
pub best_none : (es : List Float) (n : ℕ) → n ≡ 0 → [] ≡ best_of (numbered 0 (take n es))
unfolding numbered
best_none es n e = rw e

-- ---- the shortlist

-- as many are listed as the length states
pub listed_length : (es : List Candidate) (n : ℕ) → n ≤ length es → length (map still_in_of (take n es)) ≡ n
listed_length es n fits = length-map (take n es) still_in_of ∙ length-take-le n es fits

-- minus infinity, as the code writes it
pub lowest : div binary64 (neg F.one) F.zero ≡ inf true
unfolding div neg of_bits
lowest = refl

-- all candidates, each with its place
module _ (es : List ProposedMatch) (n i : ℕ) (fits : n ≤ length es) (out : List Candidate) {w : List StillIn} (inv : map still_in_of (take i out) ++ placed i (map match_of (drop i (take n es))) ≡ w) where
  pub listed_on : (d : ProposedMatch) → i < length out → i < n → map still_in_of (take (i + 1) (set out i (record { place = i; proposed = get_or es i d }))) ++ placed (i + 1) (map match_of (drop (i + 1) (take n es))) ≡ w
  unfolding placed
  listed_on d room h =
      let x : Candidate = record { place = i; proposed = get_or es i d } in
      let m : map still_in_of (take i out ++ (x ∷ [])) ≡ map still_in_of (take i out) ++ (still_in_of x ∷ []) = map-append still_in_of (take i out) (x ∷ []) in
      rw (push out i x room, m, append_snoc (map still_in_of (take i out)) (still_in_of x) (placed (i + 1) (map match_of (drop (i + 1) (take n es)))), add-one i)
      (rw (peel es n i d fits h, add-one i) at inv)

  pub listed_end : n ≤ i → i ≤ n → map still_in_of (take i out) ≡ w
  unfolding placed
  listed_end h k = sym (append-nil (map still_in_of (take i out))) ∙ (rw (peeled es n i fits h k) at inv)

-- one objective after another
module _ (r : Roster) where
  narrowed_one : (o : SoftObjective) (os : List SoftObjective) (ks : List StillIn) → eqb (length (near_best r o ks)) 1 ≡ true → narrowed r (o ∷ os) ks ≡ near_best r o ks
  unfolding narrowed
  narrowed_one o os ks t = rw t

  narrowed_more : (o : SoftObjective) (os : List SoftObjective) (ks : List StillIn) → eqb (length (near_best r o ks)) 1 ≡ false → narrowed r (o ∷ os) ks ≡ narrowed r os (near_best r o ks)
  unfolding narrowed
  narrowed_more o os ks t = rw t

  module _ (os : List SoftObjective) (n i : ℕ) (fits : n ≤ length os) (ks : List StillIn) {w : List StillIn} (inv : narrowed r (drop i (take n os)) ks ≡ w) where
    -- one is left: it is the answer
    pub narrow_stops : (d : SoftObjective) {s : List StillIn} → i < n → s ≡ near_best r (get_or os i d) ks → eqb (length s) 1 ≡ true → s ≡ w
    narrow_stops d {s} h e t =
        e ∙ sym (narrowed_one (get_or os i d) (drop (i + 1) (take n os)) ks (sym (ap (λ (l : List StillIn). eqb (length l) 1) e) ∙ t)) ∙ (rw (peel os n i d fits h) at inv)

    -- else the next objective narrows what is left
    pub narrow_on : (d : SoftObjective) {s : List StillIn} → i < n → s ≡ near_best r (get_or os i d) ks → eqb (length s) 1 ≡ false → narrowed r (drop (i + 1) (take n os)) s ≡ w
    narrow_on d {s} h e t =
        ap (narrowed r (drop (i + 1) (take n os))) e
        ∙ sym (narrowed_more (get_or os i d) (drop (i + 1) (take n os)) ks (sym (ap (λ (l : List StillIn). eqb (length l) 1) e) ∙ t)) ∙ (rw (peel os n i d fits h) at inv)

    -- no objective is left
    pub narrow_end : n ≤ i → i ≤ n → ks ≡ w
    unfolding narrowed
    narrow_end h k = rw (peeled os n i fits h k) at inv
