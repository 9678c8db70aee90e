-- What a chain of iterators answers, in the words of specs/Lists. Each of the last laws takes the call's clause `ran`, the list that
-- the chain gives, and that the closure computes the test.
use mathlib.Core.Path.{◌≡◌, refl, sym, ap, ◌∙◌}
use mathlib.Core.Bool.{Bool, true, false}
use mathlib.Core.List.{List, [], ◌∷◌, map}
use Prim.Native.Nat.{ℕ, ◌≤◌}
use native.Mathlib.Omega.{arith}
use lib.ListN.{length, length-map, get_or, get_or-map}
use Rattle.std.specs.Array.{IsMapOf}
use lib.Dec.{ltb}
use borrow.Author.Tests.{ltb-false}
use denote.Param.Members.{Mut}
use Rattle.std.specs.Fn.{Called}
use Rattle.std.specs.Iterator.{YieldsThen}
use Rattle.std.specs.List.{list_any, list_all, filter, position_or_len, position, FoldsTo}
use Rattle.std.specs.Option.{MatchOption, unwrap_or}
use Rattle.std.specs.declared.option.Option.{Option}
use Rattle.std.specs.declared.option.Option.TheVariants.{Some, None}
use Rattle.std.proofs.lemmas.List.{ext_get_or}
use Rattle.std.proofs.lemmas.Iterator.{YieldsList}
use Rattle.std.proofs.lemmas.Iterator.Search.{any_from_yields_List, all_from_yields_List, position_from_yields_List}
use Rattle.base.specs.Lists.{seek, any, every, keep, place}
use Rattle.base.proofs.Cases.{cases}

-- ---- the library's words for ours

module _ {A : Type 0} (p : A → Bool) where
  pub any_of_list : (xs : List A) → list_any p xs ≡ any p xs
  unfolding seek
  any_of_list [] = refl
  any_of_list (x ∷ xs) = cases (p x) (λ t. rw t) (λ f. rw f (any_of_list xs))

  pub every_of_list : (xs : List A) → list_all p xs ≡ every p xs
  unfolding seek
  every_of_list [] = refl
  every_of_list (x ∷ xs) = cases (p x) (λ t. rw t (every_of_list xs)) (λ f. rw f)

  pub keep_of_list : (xs : List A) → filter p xs ≡ keep p xs
  unfolding keep
  keep_of_list [] = refl
  keep_of_list (x ∷ xs) = cases (p x) (λ t. rw t (ap (λ ys. x ∷ ys) (keep_of_list xs))) (λ f. rw f (keep_of_list xs))

  pub place_of_list : (xs : List A) → position_or_len p xs ≡ place p xs
  unfolding place
  place_of_list [] = refl
  place_of_list (x ∷ xs) = cases (p x) (λ t. rw t) (λ f. rw f (let h = place_of_list xs in omega arith))

  place_le : (xs : List A) → place p xs ≤ length xs
  unfolding place
  place_le [] = omega arith
  place_le (x ∷ xs) = cases (p x) (λ t. rw t (omega arith)) (λ f. rw f (let h = place_le xs in omega arith))

  pub place_of_position : (xs : List A) → unwrap_or (position p xs) (length xs) ≡ place p xs
  place_of_position xs =
      let e = place_of_list xs in
      let h = place_le xs in
      cases (ltb (position_or_len p xs) (length xs)) (λ t. rw t e) (λ f. rw f (let g = ltb-false (position_or_len p xs) (length xs) f in omega arith))

-- ---- the last call of a chain

module _ {S A B F : Type 0} {steps : S → Option A → S → Type 0} {v : A → B} {g : Mut F (A × Unit {0}) Bool} {s : S} {all : List B} (test : B → Bool) (u : S) {f : F} where
  -- `any`
  pub any_ran : {r : Bool} → (xs : List A) × (o : Option A) × (j : F) × YieldsThen steps s xs o u × FoldsTo (λ p x q. Called g p (x, tt) false q) f xs j × MatchOption o (r ≡ false) (λ x. (r ≡ true) × ((h : F) × Called g j (x, tt) true h)) → YieldsList steps v s all → ((x : A) (b : Bool) (q : F) → Called g f (x, tt) b q → (q ≡ f) × (b ≡ test (v x))) → r ≡ any test all
  any_ran ran gives computes = any_from_yields_List test u f _ ran gives computes ∙ any_of_list test all

  -- `all`
  pub every_ran : {r : Bool} → (xs : List A) × (o : Option A) × (j : F) × YieldsThen steps s xs o u × FoldsTo (λ p x q. Called g p (x, tt) true q) f xs j × MatchOption o (r ≡ true) (λ x. (r ≡ false) × ((h : F) × Called g j (x, tt) false h)) → YieldsList steps v s all → ((x : A) (b : Bool) (q : F) → Called g f (x, tt) b q → (q ≡ f) × (b ≡ test (v x))) → r ≡ every test all
  every_ran ran gives computes = all_from_yields_List test u f _ ran gives computes ∙ every_of_list test all

  -- `position`, and the length where there is none
  pub place_ran : {r : Option ℕ} → (xs : List A) × (o : Option A) × (j : F) × YieldsThen steps s xs o u × FoldsTo (λ p x q. Called g p (x, tt) false q) f xs j × MatchOption o (r ≡ None) (λ x. (r ≡ Some (length xs)) × ((h : F) × Called g j (x, tt) true h)) → YieldsList steps v s all → ((x : A) (b : Bool) (q : F) → Called g f (x, tt) b q → (q ≡ f) × (b ≡ test (v x))) → unwrap_or r (length all) ≡ place test all
  place_ran ran gives computes = ap (λ o. unwrap_or o (length all)) (position_from_yields_List test u f _ ran gives computes) ∙ place_of_position test all

-- ---- an array's `map`

module _ {F A B : Type 0} {g : Mut F (A × Unit {0}) B} {f : F} where
  pub mapped : (h : A → B) (d : A) (xs : List A) {ys : List B} {n : ℕ} → length xs ≡ n → IsMapOf g f xs ys n → ((x : A) (y : B) (p q : F) → Called g p (x, tt) y q → y ≡ h x) → ys ≡ map h xs
  mapped h d xs {ys} {n} long made computes =
      let l : length ys ≡ length (map h xs) = made.long ∙ sym long ∙ sym (length-map xs h) in
      ext_get_or (h d) ys (map h xs) l (λ i b.
      let t = made.at i d (h d) (let m = made.long in omega arith) in
      computes (get_or xs i d) (get_or ys i (h d)) t.0 t.1 t.2 ∙ sym (get_or-map h xs i d))
