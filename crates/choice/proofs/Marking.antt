-- Sets of places, built from the last place to the first: one as a number, and those of the places that have a number, together.
use Prim.Native.Nat.{ℕ, suc, ◌+◌, ◌-◌, ◌*◌, ◌^◌, ◌≤◌, ◌<◌}
use mathlib.Core.Path.{◌≡◌, ◌∙◌}
use mathlib.Core.Bool.{Bool, cond}
use mathlib.Core.List.{List, [], ◌∷◌}
use native.Mathlib.Nat.{pow-suc, pow-zero}
use native.Mathlib.Omega.{arith}
use lib.Bits.{bit_or}
use lib.Dec.{eqb}
use lib.ListN.{length, drop, get_or, length-drop}
use lib.Seq.{drop-cons}
use lib.Pow.{pow_mono}
use Rattle.choice.specs.Reading.{marks, pooled}
use Rattle.choice.proofs.MarkLaws.{digit_small}

-- what is left at the place before i begins with the element there
peel_before : {A : Type 0} (es : List A) (i : ℕ) (d : A) → i ≤ length es → 0 < i → drop (i - 1) es ≡ get_or es (i - 1) d ∷ drop i es
peel_before es i d k h =
    let z : suc (i - 1) ≡ i = omega arith in
    rw z at (drop-cons es (i - 1) d (omega arith))

module _ {A : Type 0} (p : A → Bool) where
  -- a set of n places has no more than n binary digits
  pub marks_below : (xs : List A) → marks p xs < 2 ^ length xs
  unfolding marks
  marks_below [] = rw (pow-zero 2) (omega arith)
  marks_below (x ∷ xs) = omega (arith, marks_below xs, pow-suc 2 (length xs), digit_small (p x))

  module _ (es : List A) (i : ℕ) (k : i ≤ length es) {out : ℕ} (inv : out ≡ marks p (drop i es)) where
    -- before the first of 64 places is looked at there are fewer than 64 digits
    pub marks_fit : length es ≤ 64 → 0 < i → out < 2 ^ 63
    marks_fit m h =
        let s : length (drop i es) ≤ 63 = omega (arith, length-drop i es) in
        omega (arith, inv, marks_below (drop i es), pow_mono s)

    -- the place before i is looked at too
    pub marks_on : (d : A) → 0 < i → {r : ℕ} → r ≡ out * 2 + cond (p (get_or es (i - 1) d)) 1 0 → r ≡ marks p (drop (i - 1) es)
    unfolding marks
    marks_on d h {r} e = e ∙ rw (peel_before es i d k h, inv)

-- ---- the sets of the places that have the number k, together

-- the place before i is looked at too
pub pooled_on : (k : ℕ) (ns sets : List ℕ) (i : ℕ) → length ns ≡ length sets → i ≤ length ns → {out : ℕ} → out ≡ pooled k (drop i ns) (drop i sets)
    → 0 < i → {r : ℕ} → r ≡ cond (eqb (get_or ns (i - 1) 0) k) (bit_or (get_or sets (i - 1) 0) out) out → r ≡ pooled k (drop (i - 1) ns) (drop (i - 1) sets)
unfolding pooled
pooled_on k ns sets i alike h inv g e = e ∙ rw (peel_before ns i 0 h g, peel_before sets i 0 (omega arith) g, inv)
