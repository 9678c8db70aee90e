-- The roster's laws: ascending ids are all different, what a column says of a player and in a row, and the turns of the loops.
use Prim.Native.Nat.{ℕ, zero, suc, ◌+◌, ◌≤◌, ◌<◌}
use mathlib.Core.Path.{◌≡◌, refl, sym, ap, ◌∙◌}
use mathlib.Core.Bool.{Bool, true, false, cond, ◌&&◌}
use mathlib.Core.List.{List, [], ◌∷◌, map}
use Rattle.std.specs.Prelude.{None, Some}
use native.Mathlib.Numerals.{add-one}
use native.Mathlib.Nat.{le_of_suc-le-suc, not-suc-le-zero}
use native.Mathlib.Omega.{arith}
use borrow.Author.Tests.{lt-ltb, le-ltb, ltb-true, ltb-false, eq-eqb, ne_eqb, eqb-true}
use lib.Dec.{eqb, ltb}
use lib.ListN.{length, take, drop, get_or, drop_of_length-le}
use lib.Seq.{drop-cons}
use Rattle.base.specs.Lists.{seek, any, every, place, member, distinct}
use Rattle.base.specs.Sheets.{laid}
use Rattle.base.specs.Refusals.{Outcome, refused, gives, refusal_number, outcome_of}
use Rattle.std.specs.Prelude.{Result}
use Rattle.std.specs.Prelude.{Ok, Err}
use Rattle.base.specs.declared.Refusal.{Refusal}
use Rattle.base.proofs.Cases.{cases, never}
use Rattle.roster.specs.Ascending.{ascends_from, ascends}
use Rattle.roster.specs.Roster.{too_long, is_region, columns_check, row_of, observe}
use Rattle.roster.specs.Rows.{found_rows, value_at}
use Rattle.roster.specs.Steps.{lengths_check}

-- ---- ascending ids

-- nobody at or below x is in a list that ascends from x
above : (g x : ℕ) (ys : List ℕ) → g ≤ x → ascends_from x ys ≡ true → member g ys ≡ false
unfolding seek ascends_from
above g x [] h e = refl
above g x (y ∷ ys) h e =
    cases (ltb x y)
    (λ t. let l : x < y = ltb-true x y t in rw (ne_eqb y g (omega arith)) (above g y ys (omega arith) (rw t at e)))
    (λ f. never cc)

-- a number and what ascends from it are all different
ascending_distinct : (x : ℕ) (ys : List ℕ) → ascends_from x ys ≡ true → distinct (x ∷ ys) ≡ true
unfolding distinct ascends_from
ascending_distinct x [] e = rw (above x x [] (omega arith) e) refl
ascending_distinct x (y ∷ ys) e =
    cases (ltb x y)
    (λ t. rw (above x x (y ∷ ys) (omega arith) e) (ascending_distinct y ys (rw t at e)))
    (λ f. never cc)

-- ascending ids are all different
pub ascends_distinct : (xs : List ℕ) → ascends xs ≡ true → distinct xs ≡ true
unfolding distinct ascends
ascends_distinct [] e = refl
ascends_distinct (x ∷ xs) e = ascending_distinct x xs e

-- ---- the row of a player

-- v is what the whole search gives: the rows gone by and the row in the rest
module _ (p : ℕ) (ids : List ℕ) (i : ℕ) {v : ℕ} (inv : v ≡ i + row_of p (drop i ids)) where
  -- the player is in row i
  pub row_hit : i < length ids → get_or ids i 0 ≡ p → i ≡ v
  unfolding place
  row_hit h e =
      let z : row_of p (drop i ids) ≡ 0 = rw (drop-cons ids i 0 h, eq-eqb (get_or ids i 0) p e) in
      omega arith

  -- somebody else is
  pub row_on : i < length ids → (get_or ids i 0 ≡ p → ⊥) → v ≡ i + 1 + row_of p (drop (i + 1) ids)
  unfolding place
  row_on h e =
      let z : row_of p (drop i ids) ≡ suc (row_of p (drop (i + 1) ids)) = rw (drop-cons ids i 0 h, ne_eqb (get_or ids i 0) p e, add-one i) in
      omega arith

-- ---- the row of a player where nobody has two rows

-- who stands in a later row is not in the first
other_head : (p x : ℕ) (xs : List ℕ) (i : ℕ) → member x xs ≡ false → i < length xs → get_or xs i 0 ≡ p → eqb x p ≡ false
unfolding seek
other_head p x [] i m h e = absurd (not-suc-le-zero h)
other_head p x (y ∷ ys) zero m h e =
    cases (eqb y x) (λ t. never (let z : true ≡ false = rw t at m in cc))
    (λ f. ne_eqb x p (λ k. never (let z : true ≡ false = sym (eq-eqb y x (e ∙ sym k)) ∙ f in cc)))
other_head p x (y ∷ ys) (suc i) m h e =
    cases (eqb y x) (λ t. never (let z : true ≡ false = rw t at m in cc)) (λ f. other_head p x ys i (rw f at m) (le_of_suc-le-suc h) e)

-- where nobody has two rows, a row that has the player is the player's
pub only_row : (p : ℕ) (ids : List ℕ) (i : ℕ) → distinct ids ≡ true → i < length ids → get_or ids i 0 ≡ p → i ≡ row_of p ids
unfolding distinct place
only_row p [] i d h e = absurd (not-suc-le-zero h)
only_row p (id ∷ ids) zero d h e = rw (eq-eqb id p e)
only_row p (id ∷ ids) (suc i) d h e =
    cases (member id ids) (λ t. never (let z : false ≡ true = rw t at d in cc))
    (λ f. rw (other_head p id ids i f (le_of_suc-le-suc h) e) (ap suc (only_row p ids i (rw f at d) (le_of_suc-le-suc h) e)))

-- ---- rows onto a sheet

-- what comes of a sheet behind a check
module _ (ids players sheet : List ℕ) (k : Result Unit Refusal) {o : Outcome Unit} where
  pub found_refused : {x : Refusal} → k ≡ Err x → outcome_of k ≡ o → sheet ≡ found_rows o ids players sheet
  found_refused e h = rw (← h, e)

  pub found_passed : k ≡ Ok tt → outcome_of k ≡ o → laid sheet 0 (take (length sheet) (map (λ p. row_of p ids) players)) ≡ found_rows o ids players sheet
  found_passed e h = rw (← h, e)

  -- for a caller: behind a check that passes the sheet holds the players' rows
  pub found_laid : {asked rows : List ℕ} → asked ≡ players → k ≡ Ok tt → outcome_of k ≡ o → rows ≡ found_rows o ids asked sheet → rows ≡ laid sheet 0 (take (length sheet) (map (λ p. row_of p ids) players))
  found_laid a e h f = f ∙ ap (λ (l : List ℕ). found_rows o ids l sheet) a ∙ sym (found_passed e h)

-- ---- what a column says in a row

module _ {A : Type 0} where
  -- the column goes so far
  pub value_row : (xs : List A) (row : ℕ) (d : A) → row < length xs → value_at xs row ≡ Some (get_or xs row d)
  unfolding value_at
  value_row [] row d h = absurd (not-suc-le-zero h)
  value_row (x ∷ xs) zero d h = refl
  value_row (x ∷ xs) (suc row) d h = value_row xs row d (le_of_suc-le-suc h)

  -- it ends before
  pub value_none : (xs : List A) (row : ℕ) → length xs ≤ row → value_at xs row ≡ None
  unfolding value_at
  value_none [] row h = refl
  value_none (x ∷ xs) zero h = absurd (not-suc-le-zero h)
  value_none (x ∷ xs) (suc row) h = value_none xs row (le_of_suc-le-suc h)

  -- a column as long as the ids says of a player what it says in the player's row
  pub value_observed : (p : ℕ) (ids : List ℕ) (xs : List A) → length xs ≡ length ids → value_at xs (row_of p ids) ≡ observe ids xs p
  unfolding value_at observe place
  value_observed p [] [] l = refl
  value_observed p [] (x ∷ xs) l = absurd (omega arith)
  value_observed p (id ∷ ids) [] l = absurd (omega arith)
  value_observed p (id ∷ ids) (x ∷ xs) l = cases (eqb id p) (λ t. rw t) (λ f. rw f (value_observed p ids xs (omega arith)))

-- ---- what a column says of a player

module _ {A : Type 0} (p : ℕ) where
  -- where the player's row is in both columns, the column says what stands in that row
  pub observe_row : (ids : List ℕ) (xs : List A) (d : A) → row_of p ids < length ids → row_of p ids < length xs → observe ids xs p ≡ Some (get_or xs (row_of p ids) d)
  unfolding observe place
  observe_row [] xs d h k = absurd (not-suc-le-zero h)
  observe_row (id ∷ ids) [] d h k = absurd (not-suc-le-zero k)
  observe_row (id ∷ ids) (x ∷ xs) d h k =
      cases (eqb id p) (λ t. rw t)
      (λ f. rw f (observe_row ids xs d (le_of_suc-le-suc (rw f at h)) (le_of_suc-le-suc (rw f at k))))

  -- where the player has no row, the column says nothing
  pub observe_no_row : (ids : List ℕ) (xs : List A) → length ids ≤ row_of p ids → observe ids xs p ≡ None
  unfolding observe place
  observe_no_row [] xs h = refl
  observe_no_row (id ∷ ids) [] h = refl
  observe_no_row (id ∷ ids) (x ∷ xs) h =
      cases (eqb id p) (λ t. absurd (not-suc-le-zero (rw t at h)))
      (λ f. rw f (observe_no_row ids xs (le_of_suc-le-suc (rw f at h))))

  -- where the column ends above the player's row, it says nothing
  pub observe_short : (ids : List ℕ) (xs : List A) → length xs ≤ row_of p ids → observe ids xs p ≡ None
  unfolding observe place
  observe_short [] xs h = refl
  observe_short (id ∷ ids) [] h = refl
  observe_short (id ∷ ids) (x ∷ xs) h =
      cases (eqb id p) (λ t. absurd (not-suc-le-zero (rw t at h)))
      (λ f. rw f (observe_short ids xs (le_of_suc-le-suc (rw f at h))))

  -- of a player who is not in the ids no column says anything
  pub observe_absent : (ids : List ℕ) (xs : List A) → member p ids ≡ false → observe ids xs p ≡ None
  unfolding observe seek
  observe_absent [] xs h = refl
  observe_absent (id ∷ ids) [] h = refl
  observe_absent (id ∷ ids) (x ∷ xs) h =
      cases (eqb id p) (λ t. never (let e : true ≡ false = rw t at h in cc)) (λ f. rw f (observe_absent ids xs (rw f at h)))

  -- a column as long as the ids is silent only of a player who is not in the ids
  pub observe_silent : (ids : List ℕ) (xs : List A) → length ids ≡ length xs → observe ids xs p ≡ None → member p ids ≡ false
  unfolding observe seek
  observe_silent [] xs l h = refl
  observe_silent (id ∷ ids) [] l h = absurd (omega arith)
  observe_silent (id ∷ ids) (x ∷ xs) l h =
      cases (eqb id p) (λ t. never (let e : Some x ≡ None = rw t at h in cc)) (λ f. rw f (observe_silent ids xs (omega arith) (rw f at h)))

  -- where the columns are of equal length, a column says nothing of a player exactly where the player is not in the ids
  pub observe_none : (ids : List ℕ) (xs : List A) → length ids ≡ length xs → (observe ids xs p ≡ None → member p ids ≡ false) × (member p ids ≡ false → observe ids xs p ≡ None)
  observe_none ids xs l = (observe_silent ids xs l, observe_absent ids xs)

-- ---- each id against the later ones

module _ (xs : List ℕ) (i : ℕ) (inv : distinct xs ≡ distinct (drop i xs)) where
  -- the id at i stands behind it once more
  pub distinct_not : i < length xs → member (get_or xs i 0) (drop (i + 1) xs) ≡ true → false ≡ distinct xs
  unfolding distinct
  distinct_not h e = let f : member (get_or xs i 0) (drop (suc i) xs) ≡ true = rw add-one at e in sym (inv ∙ rw (drop-cons xs i 0 h, f))

  -- the id at i doesn't: the rest decides
  pub distinct_on : i < length xs → member (get_or xs i 0) (drop (i + 1) xs) ≡ false → distinct xs ≡ distinct (drop (i + 1) xs)
  unfolding distinct
  distinct_on h e = let f : member (get_or xs i 0) (drop (suc i) xs) ≡ false = rw add-one at e in inv ∙ rw (drop-cons xs i 0 h, f, add-one)

  -- no id is left
  pub distinct_end : length xs ≤ i → true ≡ distinct xs
  unfolding distinct
  distinct_end h = sym (inv ∙ rw (drop_of_length-le xs h))

-- ---- each id against the one before

-- where there are no ids, they ascend
pub ascends_none : (xs : List ℕ) → length xs ≡ 0 → true ≡ ascends xs
unfolding ascends
ascends_none [] e = refl
ascends_none (x ∷ xs) e = absurd (omega arith)

-- ids ascend where those behind the first ascend from it
pub ascends_start : (xs : List ℕ) → (length xs ≡ 0 → ⊥) → ascends xs ≡ ascends_from (get_or xs 0 0) (drop 1 xs)
unfolding ascends
ascends_start [] e = absurd (e refl)
ascends_start (x ∷ xs) e = refl

both : (p q r : Bool) → (p && cond q r false) ≡ ((p && q) && r)
both true true r = refl
both true false r = refl
both false q r = refl

with_true : (p : Bool) → (p && true) ≡ p
with_true true = refl
with_true false = refl

-- v is what the whole pass gives: what went by ascends, and the rest ascends from the last id
module _ (rising : Bool) (x : ℕ) (xs : List ℕ) (i : ℕ) {v : Bool} (inv : v ≡ (rising && ascends_from x (drop i xs))) where
  -- the id at i is the last now
  pub ascends_on : i < length xs → v ≡ ((rising && ltb x (get_or xs i 0)) && ascends_from (get_or xs i 0) (drop (i + 1) xs))
  unfolding ascends_from
  ascends_on h = inv ∙ rw (drop-cons xs i 0 h, add-one i) (both rising (ltb x (get_or xs i 0)) _)

  -- no id is left
  pub ascends_end : length xs ≤ i → rising ≡ v
  unfolding ascends_from
  ascends_end h = sym (inv ∙ rw (drop_of_length-le xs h) (with_true rising))

-- ---- refusals 1 and 2

-- the check of so many rows and of the other columns' lengths
module _ (rows : ℕ) (ls : List ℕ) where
  -- over 128 rows: 1
  pub long_ids : 128 < rows → refused 1 ≡ lengths_check rows ls
  unfolding seek
  long_ids h = rw (lt-ltb 128 rows h)

  -- over 128 in another column: 1
  pub long_column : rows ≤ 128 → any too_long ls ≡ true → refused 1 ≡ lengths_check rows ls
  unfolding seek
  long_column h o = rw (le-ltb 128 rows h, o)

  module _ (h : rows ≤ 128) (o : any too_long ls ≡ false) where
    -- a column that is not as long as the ids: 2
    pub uneven : every (λ n. eqb n rows) ls ≡ false → refused 2 ≡ lengths_check rows ls
    unfolding seek
    uneven e = rw (le-ltb 128 rows h, o, e)

    -- none of these: it passes
    pub even : every (λ n. eqb n rows) ls ≡ true → gives tt ≡ lengths_check rows ls
    unfolding seek
    even e = rw (le-ltb 128 rows h, o, e)

-- the tests' order over their answers: too long, even, all different, all regions
abbrev verdict : Bool → Bool → Bool → Bool → Outcome Unit
verdict o e d r = cond o (refused 1) (cond (e && (d && r)) (gives tt) (refused 2))

-- the same of the lengths alone
abbrev verdict_of_lengths : Bool → Bool → Outcome Unit
verdict_of_lengths o e = cond o (refused 1) (cond e (gives tt) (refused 2))

-- what is refused for the lengths is refused so whatever the ids are
lengths_refused : (o e d r : Bool) (k : ℕ) → refused k ≡ verdict_of_lengths o e → refused k ≡ verdict o e d r
lengths_refused true e d r k h = h
lengths_refused false true d r k h = never cc
lengths_refused false false d r k h = h

-- what passes for the lengths is left to the ids where no regions are taken
lengths_passed : (o e d : Bool) → gives tt ≡ verdict_of_lengths o e → cond d (gives tt) (refused 2) ≡ verdict o e d true
lengths_passed true e d h = never cc
lengths_passed false true true h = refl
lengths_passed false true false h = refl
lengths_passed false false d h = never cc

-- and no column is too long
lengths_short : (o e : Bool) → gives tt ≡ verdict_of_lengths o e → o ≡ false
lengths_short true e h = never cc
lengths_short false e h = refl

-- what is refused where all regions are good is refused so whatever they are
verdict_refused : (o e d r : Bool) (k : ℕ) → refused k ≡ verdict o e d true → refused k ≡ verdict o e d r
verdict_refused true e d r k h = h
verdict_refused false true true r k h = never cc
verdict_refused false true false r k h = h
verdict_refused false false d r k h = h

-- what passes where all regions are good is left to the regions
verdict_passed : (o e d r : Bool) → gives tt ≡ verdict o e d true → cond r (gives tt) (refused 2) ≡ verdict o e d r
verdict_passed true e d r h = never cc
verdict_passed false true true r h = refl
verdict_passed false true false r h = never cc
verdict_passed false false d r h = never cc

-- what passes has all ids different
verdict_distinct : (o e d r : Bool) → gives tt ≡ verdict o e d r → d ≡ true
verdict_distinct true e d r h = never cc
verdict_distinct false true true r h = refl
verdict_distinct false true false r h = never cc
verdict_distinct false false d r h = never cc

-- and all columns even
verdict_even : (o e d r : Bool) → gives tt ≡ verdict o e d r → e ≡ true
verdict_even true e d r h = never cc
verdict_even false true d r h = refl
verdict_even false false d r h = never cc

-- where all are as long as the ids, the first is and the others are
pub even_first : (n l : ℕ) (ls : List ℕ) → every (λ k. eqb k n) (l ∷ ls) ≡ true → (l ≡ n) × (every (λ k. eqb k n) ls ≡ true)
unfolding seek
even_first n l ls h =
    cases (eqb l n) (λ t. (eqb-true l n t, rw t at h)) (λ f. never (let z : false ≡ true = rw f at h in cc))

-- what comes of the check of the lengths
module _ (ids ls : List ℕ) (k : Result Unit Refusal) (h : outcome_of k ≡ lengths_check (length ids) ls) where
  -- it refuses: so does the whole check, by the same number
  pub refused_by_length : {x : Refusal} → k ≡ Err x → outcome_of k ≡ columns_check ids ls []
  unfolding seek
  refused_by_length {x} e =
      rw e
      (lengths_refused (any too_long (length ids ∷ ls)) (every (λ n. eqb n (length ids)) ls) (distinct ids) true (refusal_number x) (rw e at h))

  -- it passes: the ids decide
  pub ids_decide : k ≡ Ok tt → {t : Bool} → distinct ids ≡ t → cond t (gives tt) (refused 2) ≡ columns_check ids ls []
  unfolding seek
  ids_decide e f =
      rw (← f) (lengths_passed (any too_long (length ids ∷ ls)) (every (λ n. eqb n (length ids)) ls) (distinct ids) (rw e at h))

  -- it passes: there are 128 ids at most
  pub ids_few : k ≡ Ok tt → length ids ≤ 128
  unfolding seek
  ids_few e =
      let o : any too_long (length ids ∷ ls) ≡ false = lengths_short (any too_long (length ids ∷ ls)) (every (λ n. eqb n (length ids)) ls) (rw e at h) in
      cases (ltb 128 (length ids)) (λ t. never (let z : true ≡ false = rw t at o in cc)) (λ f. ltb-false 128 (length ids) f)

module _ (ids ls codes : List ℕ) where
  -- a roster that passes its check has columns as long as the ids
  pub passed_even : (k : Result Unit Refusal) → k ≡ Ok tt → outcome_of k ≡ columns_check ids ls codes → every (λ n. eqb n (length ids)) ls ≡ true
  passed_even k e h =
      verdict_even (any too_long (length ids ∷ ls)) (every (λ n. eqb n (length ids)) ls) (distinct ids) (every is_region codes) (rw e at h)

  -- a roster that passes its check has nobody in two rows
  pub passed_distinct : (k : Result Unit Refusal) → k ≡ Ok tt → outcome_of k ≡ columns_check ids ls codes → distinct ids ≡ true
  passed_distinct k e h =
      verdict_distinct (any too_long (length ids ∷ ls)) (every (λ n. eqb n (length ids)) ls) (distinct ids) (every is_region codes) (rw e at h)

  -- what is refused without the regions is refused with them, by the same number
  pub refused_still : (r : Result Unit Refusal) {x : Refusal} → r ≡ Err x → outcome_of r ≡ columns_check ids ls [] → outcome_of r ≡ columns_check ids ls codes
  unfolding seek
  refused_still r {x} e h =
      rw e
      (verdict_refused (any too_long (length ids ∷ ls)) (every (λ n. eqb n (length ids)) ls) (distinct ids) (every is_region codes) (refusal_number x)
      (rw e at h))

  -- what passes without the regions is left to the regions
  pub regions_decide : (r : Result Unit Refusal) → r ≡ Ok tt → outcome_of r ≡ columns_check ids ls [] → {t : Bool} → every is_region codes ≡ t → cond t (gives tt) (refused 2) ≡ columns_check ids ls codes
  unfolding seek
  regions_decide r e h f =
      rw (← f) (verdict_passed (any too_long (length ids ∷ ls)) (every (λ n. eqb n (length ids)) ls) (distinct ids) (every is_region codes) (rw e at h))
