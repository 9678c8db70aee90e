-- Laws of a look-up: the first element that has a number.
use Prim.Native.Nat.{ℕ}
use mathlib.Core.Path.{◌≡◌, refl, sym}
use mathlib.Core.Bool.{Bool, true, false, cond}
use mathlib.Core.List.{List, [], ◌∷◌, ◌++◌, map}
use Rattle.std.specs.Prelude.{Option, None, Some}
use lib.Dec.{eqb}
use borrow.Author.Tests.{eqb-true, eq-eqb}
use Rattle.base.specs.Lists.{seek, member, All}
use Rattle.base.proofs.Cases.{cases, never}

module _ {A : Type 0} (key : A → ℕ) where
  abbrev first : ℕ → List A → Option A
  first k = seek (λ x. eqb (key x) k) Some None

  -- a number that is not found is nobody's
  pub unfound_absent : (k : ℕ) (xs : List A) → first k xs ≡ None → member k (map key xs) ≡ false
  unfolding seek
  unfound_absent k [] e = refl
  unfound_absent k (x ∷ xs) e =
      cases (eqb (key x) k) (λ t. never (let z : Some x ≡ None = rw t at e in cc)) (λ f. rw f (unfound_absent k xs (rw f at e)))

  -- what is found stays found
  pub found_append : (k : ℕ) (n : A) (xs ys : List A) → first k xs ≡ Some n → first k (xs ++ ys) ≡ Some n
  unfolding seek
  found_append k n [] ys e = never cc
  found_append k n (x ∷ xs) ys e = cases (eqb (key x) k) (λ t. rw t (rw t at e)) (λ f. rw f (found_append k n xs ys (rw f at e)))

  -- an element with a new number, behind the others, is found
  pub found_last : (n : A) (xs : List A) → first (key n) xs ≡ None → first (key n) (xs ++ (n ∷ [])) ≡ Some n
  unfolding seek
  found_last n [] e = rw (eq-eqb (key n) (key n) refl)
  found_last n (x ∷ xs) e =
      cases (eqb (key x) (key n)) (λ t. never (let z : Some x ≡ None = rw t at e in cc)) (λ f. rw f (found_last n xs (rw f at e)))

  -- a number that was not found, and is found behind one more, is that one's
  pub found_new : (k : ℕ) (n m : A) (xs : List A) → first k xs ≡ None → first k (xs ++ (m ∷ [])) ≡ Some n → (k ≡ key m) × (n ≡ m)
  unfolding seek
  found_new k n m [] e f =
      cases (eqb (key m) k) (λ t. let z : Some m ≡ Some n = rw t at f in (sym (eqb-true (key m) k t), cc)) (λ u. never (let z : None ≡ Some n = rw u at f in cc))
  found_new k n m (x ∷ xs) e f =
      cases (eqb (key x) k) (λ t. never (let z : Some x ≡ None = rw t at e in cc)) (λ u. found_new k n m xs (rw u at e) (rw u at f))

  -- what holds of all holds of the one found
  pub found_all : (P : A → Type 0) (k : ℕ) (n : A) (xs : List A) → All P xs → first k xs ≡ Some n → P n
  unfolding seek
  found_all P k n [] a e = never cc
  found_all P k n (x ∷ xs) a e = go (eqb (key x) k) refl (found_all P k n xs a.1) e
    where
      go : (b : Bool) → eqb (key x) k ≡ b → (first k xs ≡ Some n → P n) → cond b (Some x) (first k xs) ≡ Some n → P n
      go true t i e = let z : x ≡ n = cc in rw (← z) a.0
      go false t i e = i e
