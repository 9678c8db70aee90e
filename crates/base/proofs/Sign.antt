-- What the tests of `abs` tell of its argument.
use mathlib.Core.Path.{◌≡◌, refl, sym, ap}
use mathlib.Core.Bool.{true, false, true≢false}
use Prim.Native.Nat.{zero, suc, ◌+◌, ◌*◌, ◌<◌}
use native.Mathlib.Nat.{mul-pos}
use native.Mathlib.Numerals.{unary_clauses}
use native.Mathlib.Omega.{arith}
use lib.Dec.{eqb}
use lib.IntN.{ℤ, pos, negsuc}
use lib.Pow.{pow_pos}
use lib.Ieee.{Float, nan, inf, fin, binary64, up, down, lt, eq, neg, fits, of_bits}
use lib.Ieee.Fits.{up_pos}
use borrow.Author.Tests.{ltb-true, ltb-false, eqb-true}
use Rattle.base.specs.Floats as F
use Rattle.base.proofs.Checks.{both_hold}

-- below 0.0: the sign is there
pub negative : (x : Float) → lt x F.zero ≡ true → neg x ≡ F.abs_of x
unfolding lt neg F.abs_of of_bits
negative nan t = refl
negative (inf true) t = refl
negative (inf false) t = absurd (true≢false (sym t))
negative (fin true m e) t = refl
negative (fin false m e) t = let z : ⊥ = omega (arith, ltb-true (m * up e * 1) (0 * down e) t) in absurd z

-- equal to 0.0: +0.0, since a zero is written in one way
only_zero : (e : ℤ) → up e * down e ≡ 1 → e ≡ pos 0
only_zero (pos zero) h = refl
only_zero (pos (suc k)) h = let g = simp unary_clauses at h in let z : ⊥ = omega (arith, pow_pos k) in absurd z
only_zero (negsuc k) h = let g = simp unary_clauses at h in let z : ⊥ = omega (arith, pow_pos k) in absurd z

pub at_zero : (x : Float) → fits binary64 x ≡ true → eq x F.zero ≡ true → F.zero ≡ F.abs_of x
unfolding eq F.abs_of of_bits fits
at_zero nan f t = absurd (true≢false (sym t))
at_zero (inf s) f t = absurd (true≢false (sym t))
at_zero (fin s zero e) f t = ap (λ (z : ℤ). fin false 0 z) (sym (only_zero e (eqb-true (up e * down e) 1 f)))
at_zero (fin s (suc m) e) f t =
    let h : 0 < suc m * up e = mul-pos (omega arith) (up_pos e) in
    let z : ⊥ = omega (arith, eqb-true (suc m * up e * 1) (0 * down e) (both_hold (eqb (suc m * up e * 1) (0 * down e)) _ t).0) in
    absurd z

pub above_zero_lem : (x : Float) → lt x F.zero ≡ false → eq x F.zero ≡ false → x ≡ F.abs_of x
unfolding lt eq F.abs_of of_bits
above_zero_lem nan a b = refl
above_zero_lem (inf true) a b = absurd (true≢false a)
above_zero_lem (inf false) a b = refl
above_zero_lem (fin false m e) a b = refl
above_zero_lem (fin true m e) a b =
    let h : m * up e * 1 ≡ 0 = omega (arith, ltb-false 0 (m * up e * 1 + 0 * down e) a) in
    let o : 0 * down e ≡ 0 = omega arith in
    absurd (true≢false (simp (h, o) at b))
