-- Sets of places as numbers: what both sets have, what either has, and whether a set is empty, within another, or has a place.
use Prim.Native.Nat.{ℕ, ◌+◌, ◌*◌, ◌<◌, min, max}
use mathlib.Core.Path.{◌≡◌, refl, sym, ap, ◌∙◌}
use mathlib.Core.Bool.{Bool, true, false, not, cond, ◌&&◌, ◌||◌}
use mathlib.Core.List.{List, [], ◌∷◌, map}
use native.Mathlib.Omega.{arith}
use borrow.Author.Tests.{eqb-true, eqb-false, eq-eqb, ne_eqb}
use lib.Arith.{digits_div, digits_mod}
use lib.Bits.{bit_and, bit_or, and_step, or_step}
use lib.Dec.{eqb}
use Rattle.base.specs.Lists.{seek, every, member}
use Rattle.base.proofs.Cases.{cases}
use Rattle.base.proofs.Every.{every_alike}
use Rattle.base.proofs.Members.{every_fails}
use Rattle.choice.specs.Reading.{marks}

-- ---- one digit

-- a digit is 0 or 1
pub digit_small : (a : Bool) → cond a 1 0 < 2
digit_small true = omega arith
digit_small false = omega arith

-- the smaller of two digits, and the larger
digit_min : (a b : Bool) → min (cond a 1 0) (cond b 1 0) ≡ cond (a && b) 1 0
digit_min true true = refl
digit_min true false = refl
digit_min false true = refl
digit_min false false = refl

digit_max : (a b : Bool) → max (cond a 1 0) (cond b 1 0) ≡ cond (a || b) 1 0
digit_max true true = refl
digit_max true false = refl
digit_max false true = refl
digit_max false false = refl

-- are two answers the same?
abbrev agree : Bool → Bool → Bool
agree a b = cond a b (not b)

module _ (m n : ℕ) (a b : Bool) where
  -- what both numbers have, and what either has: in the last digit and in the others
  and_digits : bit_and (m * 2 + cond a 1 0) (n * 2 + cond b 1 0) ≡ bit_and m n * 2 + cond (a && b) 1 0
  and_digits =
      and_step (m * 2 + cond a 1 0) (n * 2 + cond b 1 0)
      ∙ rw (digits_div m (digit_small a), digits_div n (digit_small b), digits_mod m (digit_small a), digits_mod n (digit_small b), digit_min a b)

  or_digits : bit_or (m * 2 + cond a 1 0) (n * 2 + cond b 1 0) ≡ bit_or m n * 2 + cond (a || b) 1 0
  or_digits =
      or_step (m * 2 + cond a 1 0) (n * 2 + cond b 1 0)
      ∙ rw (digits_div m (digit_small a), digits_div n (digit_small b), digits_mod m (digit_small a), digits_mod n (digit_small b), digit_max a b)

-- numbers of the same last digit are the same where the others are
last_same : (m n k : ℕ) → eqb (m * 2 + k) (n * 2 + k) ≡ eqb m n
last_same m n k =
    cases (eqb m n)
    (λ t. let e : m ≡ n = eqb-true m n t in eq-eqb (m * 2 + k) (n * 2 + k) (omega arith) ∙ sym t)
    (λ f. let g : m ≡ n → ⊥ = eqb-false m n f in ne_eqb (m * 2 + k) (n * 2 + k) (λ e. g (omega arith)) ∙ sym f)

-- numbers are the same where the last digits are and the others are
eqb_digits : (m n : ℕ) (a b : Bool) → eqb (m * 2 + cond a 1 0) (n * 2 + cond b 1 0) ≡ cond (not (agree a b)) false (eqb m n)
eqb_digits m n true true = last_same m n 1
eqb_digits m n true false = ne_eqb (m * 2 + 1) (n * 2 + 0) (λ e. omega arith)
eqb_digits m n false true = ne_eqb (m * 2 + 0) (n * 2 + 1) (λ e. omega arith)
eqb_digits m n false false = last_same m n 0

-- ---- sets

module _ {A : Type 0} where
  -- nothing holds of nobody
  pub marks_never : (xs : List A) → marks (λ x. false) xs ≡ 0
  unfolding marks
  marks_never [] = refl
  marks_never (x ∷ xs) = rw (marks_never xs)

  -- the places of those whom g makes something of that f holds of
  pub marks_map : {B : Type 0} (f : B → Bool) (g : A → B) (xs : List A) → marks f (map g xs) ≡ marks (λ x. f (g x)) xs
  unfolding marks
  marks_map f g [] = refl
  marks_map f g (x ∷ xs) = rw (marks_map f g xs)

module _ {A : Type 0} (f g : A → Bool) where
  -- two tests that answer alike have the same places
  pub marks_alike : ((x : A) → f x ≡ g x) → (xs : List A) → marks f xs ≡ marks g xs
  marks_alike e xs = ap (λ (p : A → Bool). marks p xs) (λ j x. e x j)

  -- the places of both sets
  pub marks_and : (xs : List A) → bit_and (marks f xs) (marks g xs) ≡ marks (λ x. f x && g x) xs
  unfolding marks
  marks_and [] = refl
  marks_and (x ∷ xs) = and_digits (marks f xs) (marks g xs) (f x) (g x) ∙ rw (marks_and xs)

  -- the places of either set
  pub marks_or : (xs : List A) → bit_or (marks f xs) (marks g xs) ≡ marks (λ x. f x || g x) xs
  unfolding marks
  marks_or [] = refl
  marks_or (x ∷ xs) = or_digits (marks f xs) (marks g xs) (f x) (g x) ∙ rw (marks_or xs)

  -- the sets are the same where the tests agree on everyone
  marks_same : (xs : List A) → eqb (marks f xs) (marks g xs) ≡ every (λ x. agree (f x) (g x)) xs
  unfolding marks seek
  marks_same [] = refl
  marks_same (x ∷ xs) = eqb_digits (marks f xs) (marks g xs) (f x) (g x) ∙ rw (marks_same xs)

agree_none : (a : Bool) → agree a false ≡ not a
agree_none true = refl
agree_none false = refl

agree_first : (a b : Bool) → agree (a && b) a ≡ (not a || b)
agree_first true true = refl
agree_first true false = refl
agree_first false b = refl

module _ {A : Type 0} (f : A → Bool) where
  -- a set is empty where the test holds of nobody
  pub marks_none : (xs : List A) → eqb (marks f xs) 0 ≡ every (λ x. not (f x)) xs
  marks_none xs =
      ap (eqb (marks f xs)) (sym (marks_never xs))
      ∙ marks_same f (λ x. false) xs
      ∙ every_alike (λ x. agree (f x) false) (λ x. not (f x)) (λ x. agree_none (f x)) xs

  -- a set is within another where the second test holds of everyone that the first holds of
  pub marks_inside : (g : A → Bool) (xs : List A) → eqb (bit_and (marks f xs) (marks g xs)) (marks f xs) ≡ every (λ x. not (f x) || g x) xs
  marks_inside g xs =
      ap (λ (n : ℕ). eqb n (marks f xs)) (marks_and f g xs)
      ∙ marks_same (λ x. f x && g x) f xs
      ∙ every_alike (λ x. agree (f x && g x) (f x)) (λ x. not (f x) || g x) (λ x. agree_first (f x) (g x)) xs

-- ---- one player

module _ (f : ℕ → Bool) (p : ℕ) where
  -- who does not pass a test is at no place of those that do
  not_at : (xs : List ℕ) → f p ≡ false → every (λ q. not (f q && eqb q p)) xs ≡ true
  unfolding seek
  not_at [] e = refl
  not_at (x ∷ xs) e =
      cases (eqb x p)
      (λ t. let z : f x ≡ false = ap f (eqb-true x p t) ∙ e in rw z (not_at xs e))
      (λ n. cases (f x) (λ t. rw (t, n) (not_at xs e)) (λ k. rw k (not_at xs e)))

  -- somebody who is there is at a place of the set where the test holds of them
  pub marks_at : (xs : List ℕ) → member p xs ≡ true → eqb (bit_and (marks f xs) (marks (λ q. eqb q p) xs)) 0 ≡ not (f p)
  marks_at xs h =
      ap (λ (n : ℕ). eqb n 0) (marks_and f (λ q. eqb q p) xs)
      ∙ marks_none (λ q. f q && eqb q p) xs
      ∙ cases (f p)
      (λ t. every_fails (λ q. not (f q && eqb q p)) p xs h (rw (t, eq-eqb p p refl)) ∙ rw t)
      (λ k. not_at xs k ∙ rw k)
