-- "Quality lies within 0.0 to 1.0", whatever the difference.
use Rattle.std.proofs.Common.{◌≡◌, ℕ, zero, suc, ◌+◌, ◌-◌, ◌*◌, ◌^◌, ◌<◌, ◌≤◌, Bool, true, false, cond, T, ltb, ℤ, pos, sym, refl, ◌∙◌, subst, true≢false, arith, ltb-true, le-ltb}
use lib.Ieee.{Float, nan, inf, fin, binary64, low, prec, emax, up, down, lt, le, eq, ne, sub, div, round, units, odd, of_bits}
use lib.Ieee.Fits.{down_pos, round_is}
use lib.Ieee.Order.{round_mono}
use Rattle.base.specs.Floats as F
use Rattle.base.specs.Refusals.{Outcome, refused, gives, guarded, outcome_of}
use Rattle.base.proofs.Cases.{never}
use Rattle.roster.specs.Roster.{Roster, ratings_check}
use Rattle.std.specs.Prelude.{Result}
use Rattle.base.specs.declared.Refusal.{Refusal}
use Rattle.matchmaker.specs.Quality.{MatchState, Bounded, overfull, quality_at, quality_rule, QualityPromise}

-- neither NaN nor with a sign
abbrev pub Unsigned : Float → Type 0
Unsigned nan = ⊥
Unsigned (inf s) = s ≡ false
Unsigned (fin s m e) = s ≡ false

-- ---- what rounding gives of a fraction without a sign has none

picked : (b : Bool) (d q k l : ℕ) → Unsigned (cond b (odd d false q k l) (inf false))
unfolding odd
picked false d q k l = refl
picked true d zero k l = refl
picked true d (suc q) k l = refl

united : (q k : ℕ) → Unsigned (units binary64 false q k)
unfolding units
united q k = picked (ltb (q * 2 ^ k) (2 ^ (low binary64 + suc (emax binary64)))) (suc (prec binary64)) q k (low binary64)

pub rounded : (a c : ℕ) → Unsigned (round binary64 false a c)
rounded a c = subst Unsigned (sym (round_is binary64 false a c)) (united _ _)

-- ---- a fraction up to 1, rounded, lies within 0.0 to 1.0

pub zero_is : round binary64 false 0 1 ≡ F.zero
unfolding round of_bits
zero_is = refl

pub one_is : round binary64 false 1 1 ≡ F.one
unfolding round of_bits
one_is = refl

pub fraction : (a c : ℕ) → 0 < c → a ≤ c → Bounded (round binary64 false a c)
fraction a c C h = (
  subst (λ (z : Float). T (le z (round binary64 false a c))) zero_is (round_mono binary64 0 1 a c (omega arith) C (omega arith)),
  subst (λ (z : Float). T (le (round binary64 false a c) z)) one_is (round_mono binary64 a c 1 1 C (omega arith) (omega arith)),
)

-- ---- 1.0 less the smaller of a value without a sign and 1.0

less : (m : ℕ) (e : ℤ) (t : Bool) → lt (fin false m e) F.one ≡ t → Bounded (sub binary64 F.one (cond t (fin false m e) (cond (ne F.one F.one) (fin false m e) F.one)))
unfolding lt le ne eq sub of_bits round
less m e false p = (tt, tt)
less m e true p =
    let h : m * up e * 1 < 1 * down e = ltb-true _ _ p in
    simp (le-ltb (1 * down e) (m * up e * 1) (omega arith)) (fraction (1 * down e - m * up e * 1) (1 * down e) (omega (arith, down_pos e)) (omega arith))

bounded : (y : Float) → Unsigned y → Bounded (sub binary64 F.one (F.min_of y F.one))
unfolding F.min_of lt le ne eq sub of_bits round
bounded nan u = absurd u
bounded (inf true) u = absurd (true≢false u)
bounded (inf false) u = (tt, tt)
bounded (fin true m e) u = absurd (true≢false u)
bounded (fin false m e) u = less m e (lt (fin false m e) F.one) refl

-- the quality lies within 0.0 to 1.0, whatever the difference
pub quality_bounded : (d : Float) → Bounded (quality_at d)
unfolding quality_at F.abs_of F.min_of lt le ne eq sub div of_bits round
quality_bounded nan = (tt, tt)
quality_bounded (inf s) = (tt, tt)
quality_bounded (fin s m e) =
    let a = m * up e * 1 in
    let c = 25 * up (pos 4) * down e in
    bounded (round binary64 false a c) (rounded a c)

-- ---- the same of every quality that is answered

guarded_bounded : (k : Outcome Unit) (d x : Float) → guarded k (gives (quality_at d)) ≡ gives x → Bounded x
guarded_bounded (refused n) d x e = never cc
guarded_bounded (gives u) d x e = let h : quality_at d ≡ x = cc in subst Bounded h (quality_bounded d)

ruled_bounded : (t : Bool) (k : Outcome Unit) (d x : Float) → cond t (refused 1) (guarded k (gives (quality_at d))) ≡ gives x → Bounded x
ruled_bounded true k d x e = never cc
ruled_bounded false k d x e = guarded_bounded k d x e

-- every quality that the rule gives lies within 0.0 to 1.0
pub rule_bounded : (r : Roster) (m : MatchState) (x : Float) → quality_rule r m ≡ gives x → Bounded x
rule_bounded r m x e = ruled_bounded (overfull m) (ratings_check r) _ x e

-- so an answer by the rule is all that is promised
pub promised : (r : Roster) (m : MatchState) (q : Result Float Refusal) → outcome_of q ≡ quality_rule r m → QualityPromise r m q
promised r m q e = record { answer = e; bounded = λ x h. rule_bounded r m x (sym e ∙ h) }
