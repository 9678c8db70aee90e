-- Counts packed into one number, eight binary digits each, built from the last count to the first; the limits, and columns of small numbers.
use Prim.Native.Nat.{ℕ, zero, suc, ◌+◌, ◌-◌, ◌*◌, ◌^◌, ◌≤◌, ◌<◌}
use mathlib.Core.Path.{◌≡◌, sym, ap, ◌∙◌}
use mathlib.Core.List.{List, [], ◌∷◌, map}
use native.Mathlib.Nat.{pow-suc, pow-zero, pow-le-pow_right, mul_assoc}
use native.Mathlib.Omega.{arith}
use borrow.Author.Tests.{ltb-false}
use lib.Dec.{ltb}
use lib.ListN.{length, take, drop, get_or, set, replicate, length-drop}
use lib.Seq.{length-take-le}
use Rattle.std.specs.Prelude.{Option, None, Some}
use Rattle.base.proofs.Arrays.{peel, peeled, all_held}
use Rattle.base.proofs.Cases.{cases}
use Rattle.constraint.specs.declared.roles.RoleRequirement.{RoleRequirement}
use Rattle.choice.specs.Reading.{packed, one_each, capped, most_of, bounds_of}
use Rattle.choice.specs.declared.tally.Bounds.{Bounds}

module _ {A : Type 0} (f : A → ℕ) where
  -- where each count is at most b, 255 times their number, and b, is at most b one digit further up than the last
  packed_most : (b : ℕ) → ((x : A) → f x ≤ b) → (xs : List A) → packed (map f xs) * 255 + b ≤ b * 256 ^ length xs
  unfolding packed
  packed_most b l [] = rw (pow-zero 256) (omega arith)
  packed_most b l (x ∷ xs) =
      let e : b * 256 ^ length (x ∷ xs) ≡ b * 256 ^ length xs * 256 = rw (pow-suc 256 (length xs)) (sym (mul_assoc b (256 ^ length xs) 256)) in
      rw e (omega (arith, packed_most b l xs, l x))

  -- counts below 256 take eight binary digits each
  pub packed_below : ((x : A) → f x ≤ 255) → (xs : List A) → packed (map f xs) < 256 ^ length xs
  packed_below l xs = omega (arith, packed_most 255 l xs)

  -- eight counts of at most 1 are at most eight counts of 1
  pub packed_ones : ((x : A) → f x ≤ 1) → (xs : List A) → length xs ≤ 8 → packed (map f xs) ≤ one_each
  packed_ones l xs h = omega (arith, packed_most 1 l xs, pow-le-pow_right {n = 256} (omega arith) h)

  -- no count is left at n
  pub packed_start : (es : List A) (n : ℕ) → n ≤ length es → 0 ≡ packed (map f (drop n (take n es)))
  unfolding packed
  packed_start es n fits = rw (peeled es n n fits (omega arith) (omega arith))

  module _ (es : List A) (n i : ℕ) (fits : n ≤ length es) (k : i ≤ n) {out : ℕ} (inv : out ≡ packed (map f (drop i (take n es)))) where
    -- before the first of eight counts is looked at, there are at most seven
    pub packed_fit : ((x : A) → f x ≤ 255) → n ≤ 8 → 0 < i → out < 2 ^ 56
    packed_fit b m h =
        let e = length-drop i (take n es) in
        let l = length-take-le n es fits in
        let s : length (drop i (take n es)) ≤ 7 = omega (arith, e, l) in
        omega (arith, inv, packed_below b (drop i (take n es)), pow-le-pow_right {n = 256} (omega arith) s)

    -- with the count before i it is a number of 64 binary digits
    pub packed_room : ((x : A) → f x ≤ 255) → n ≤ 8 → (d : A) → 0 < i → {y : ℕ} → y ≡ f (get_or es (i - 1) d) → out * 256 + y < 2 ^ 64
    packed_room b m d h e = omega (arith, packed_fit b m h, e, b (get_or es (i - 1) d))

    -- the count before i is looked at too
    pub packed_on : (d : A) → 0 < i → {y r : ℕ} → y ≡ f (get_or es (i - 1) d) → r ≡ out * 256 + y → r ≡ packed (map f (drop (i - 1) (take n es)))
    unfolding packed
    packed_on d h {y} {r} g e =
        let z : i - 1 + 1 ≡ i = omega arith in
        let w : drop (i - 1) (take n es) ≡ get_or es (i - 1) d ∷ drop i (take n es) = rw z at (peel es n (i - 1) d fits (omega arith)) in
        e ∙ rw (w, inv, g)

    -- every count of as many as are held is looked at, whatever number is stated
    pub packed_end : (len : ℕ) → n ≡ length (take len es) → i ≤ 0 → out ≡ packed (map f (take len es))
    packed_end len held h =
        let z : i ≡ 0 = omega arith in
        let e : out ≡ packed (map f (take n es)) = rw z at inv in
        e ∙ ap (λ (xs : List A). packed (map f xs)) (all_held len es held)

-- ---- the limits of requirements

-- a capped limit is at most 255
pub capped_low : (n : ℕ) → capped n ≤ 255
capped_low n = cases (ltb 255 n) (λ t. rw t (omega arith)) (λ f. rw f (ltb-false 255 n f))

-- a maximum is at most 255
pub most_low : (m : Option ℕ) → most_of m ≤ 255
most_low None = omega arith
most_low (Some n) = capped_low n

-- bounds made of their parts
pub bounds_made : (qs : List RoleRequirement) {asked least most : ℕ} → asked ≡ length qs → least ≡ packed (map (λ (q : RoleRequirement). capped q.least) qs) → most ≡ packed (map (λ (q : RoleRequirement). most_of q.most) qs) → ◌≡◌ {A = Bounds} (record { asked = asked; least = least; most = most }) (bounds_of qs)
bounds_made qs a l m = rw (a, l, m)

-- ---- a column of small numbers

-- no number of a column of zeros is over b
pub low_start : (b m j : ℕ) → get_or (replicate m 0) j 0 ≤ b
low_start b zero j = omega arith
low_start b (suc m) zero = omega arith
low_start b (suc m) (suc j) = low_start b m j

-- where none is over b, and one that is not over b is stored, none is over b
pub low_on : (b : ℕ) (xs : List ℕ) (i y : ℕ) → ((j : ℕ) → get_or xs j 0 ≤ b) → y ≤ b → (j : ℕ) → get_or (set xs i y) j 0 ≤ b
low_on b [] i y l h j = l j
low_on b (x ∷ xs) zero y l h zero = h
low_on b (x ∷ xs) zero y l h (suc j) = l (suc j)
low_on b (x ∷ xs) (suc i) y l h zero = l zero
low_on b (x ∷ xs) (suc i) y l h (suc j) = low_on b xs i y (λ k. l (suc k)) h j
