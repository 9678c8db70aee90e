-- No value of a soft objective is NaN, and latency is never below 0.0, whatever the average rating.
use Prim.Native.Nat.{ℕ, ◌+◌, ◌*◌, ◌<◌}
use mathlib.Core.Path.{◌≡◌, refl, subst}
use mathlib.Core.Bool.{Bool, true, false, cond}
use native.Mathlib.Omega.{arith}
use borrow.Author.Tests.{le-ltb, ltb-true}
use lib.Dec.{T}
use lib.IntN.{ℤ}
use lib.Ieee.{Float, nan, inf, fin, binary64, up, down, lt, le, eq, ne, sub, div, round, of_bits}
use lib.Ieee.Fits.{down_pos}
use lib.Ieee.Order.{round_mono}
use Rattle.base.specs.Floats as F
use Rattle.base.proofs.Cases.{never}
use Rattle.roster.specs.Roster.{Roster}
use Rattle.matchmaker.specs.Quality.{MatchState, quality_at}
use Rattle.matchmaker.proofs.Bounds.{quality_bounded}
use Rattle.objective.specs.declared.soft.SoftObjective.{SoftObjective}
use Rattle.objective.specs.declared.soft.SoftObjective.TheVariants.{Skill, Latency, Wait}
use Rattle.objective.specs.Soft.{half, two_hundred, latency_at, soft_value_of}

-- what is at least 0.0 is no NaN
not_nan : (x : Float) → T (le F.zero x) → x ≡ nan → ⊥
unfolding le lt eq of_bits
not_nan nan h e = h
not_nan (inf s) h e = never cc
not_nan (fin s m e') h e = never cc

-- ---- latency

zero_is : round binary64 false 0 1 ≡ F.zero
unfolding round of_bits
zero_is = refl

-- what rounding gives of a fraction without a sign is at least 0.0
rounded_low : (a c : ℕ) → 0 < c → T (le F.zero (round binary64 false a c))
rounded_low a c C = subst (λ (z : Float). T (le z (round binary64 false a c))) zero_is (round_mono binary64 0 1 a c (omega arith) C (omega arith))

-- 1.0 less the smaller of a finite value and 1.0
less_low : (s : Bool) (m : ℕ) (e : ℤ) (t : Bool) → lt (fin s m e) F.one ≡ t → T (le F.zero (sub binary64 F.one (cond t (fin s m e) (cond (ne F.one F.one) (fin s m e) F.one))))
unfolding lt le ne eq sub of_bits round
less_low s m e false p = tt
less_low true m e true p = rounded_low (1 * down e + m * up e * 1) (1 * down e) (omega (arith, down_pos e))
less_low false m e true p =
    let h : m * up e * 1 < 1 * down e = ltb-true _ _ p in
    simp (le-ltb (1 * down e) (m * up e * 1) (omega arith)) (rounded_low _ (1 * down e) (omega (arith, down_pos e)))

-- 1.0 less the smaller of any value and 1.0
at_most_one : (y : Float) → T (le F.zero (sub binary64 F.one (F.min_of y F.one)))
unfolding F.min_of lt le ne eq sub of_bits round
at_most_one nan = tt
at_most_one (inf true) = tt
at_most_one (inf false) = tt
at_most_one (fin s m e) = less_low s m e (lt (fin s m e) F.one) refl

-- latency is at least 0.0, whatever the average
pub latency_low : (x : Float) → T (le F.zero (latency_at x))
unfolding latency_at
latency_low x = at_most_one (div binary64 x two_hundred)

-- an average of NaN gives 0.0
pub latency_of_nan : latency_at nan ≡ F.zero
unfolding latency_at F.min_of div lt ne eq sub of_bits round
latency_of_nan = refl

-- an average of -inf gives +inf
pub latency_of_lowest : latency_at (inf true) ≡ inf false
unfolding latency_at F.min_of div lt ne eq sub of_bits round
latency_of_lowest = refl

-- ---- no NaN

-- latency is no NaN, whatever the average
pub latency_not_nan : (x : Float) → latency_at x ≡ nan → ⊥
latency_not_nan x = not_nan (latency_at x) (latency_low x)

-- quality is no NaN, whatever the difference
pub quality_not_nan : (d : Float) → quality_at d ≡ nan → ⊥
quality_not_nan d = not_nan (quality_at d) (quality_bounded d).0

-- 0.5 is no NaN
half_not_nan : half ≡ nan → ⊥
unfolding of_bits
half_not_nan e = never cc

-- so no value of a soft objective is NaN, for any roster and any match
pub value_not_nan : (r : Roster) (m : MatchState) (o : SoftObjective) → soft_value_of r m o ≡ nan → ⊥
value_not_nan r m (Skill w) = quality_not_nan _
value_not_nan r m (Latency w) = latency_not_nan _
value_not_nan r m (Wait w) = half_not_nan
