-- How far apart two averages are decides how quality is worked out: below 400 points it is 1.0 less a 400th of the difference; from there on, and where
-- the difference is NaN, it is 0.0, and nothing need be divided.
use Rattle.std.proofs.Common.{◌≡◌, ℕ, ◌+◌, ◌-◌, ◌*◌, ◌<◌, ◌≤◌, Bool, true, false, cond, ◌&&◌, T, eqb, ℤ, pos, sym, refl, ◌∙◌, subst, true≢false, arith, eqb→eq, ltb-false, ltb-true, le-ltb}
use lib.Ieee.{Float, nan, inf, fin, binary64, up, down, lt, le, eq, ne, neg, sum, sub, div, round, of_bits}
use lib.Ieee.Fits.{down_pos, and_l}
use lib.Ieee.Order.{round_mono}
use lib.Ieee.Positive.{above_of_le, le→cross}
use lib.Ieee.Scale.{round_same}
use Rattle.base.specs.Floats as F
use Rattle.matchmaker.specs.Quality.{four_hundred, quality_at}
use Rattle.matchmaker.proofs.Bounds.{Unsigned, rounded, fraction, zero_is, one_is}

-- ---- from 1.0 on a quotient leaves nothing of 1.0

nothing_left : (y : Float) → T (le F.one y) → sub binary64 F.one (F.min_of y F.one) ≡ F.zero
unfolding F.min_of lt le ne eq sub of_bits round
nothing_left nan h = absurd h
nothing_left (inf true) h = absurd h
nothing_left (inf false) h = refl
nothing_left (fin true m e) h = absurd (above_of_le (fin false 1 (pos 0)) (fin true m e) tt h)
nothing_left (fin false m e) h =
    let a = above_of_le (fin false 1 (pos 0)) (fin false m e) tt h in
    let l = le→cross (fin false 1 (pos 0)) (fin false m e) tt a h in
    simp (le-ltb (m * up e * 1) (1 * down e) (omega arith)) refl

-- ---- up to 1.0 it is the smaller of itself and 1.0, or equal to 1.0, and leaves as much either way

less_its_equal : (a b c : ℕ) → 0 < c → a ≡ b → sum binary64 false a true b c ≡ F.zero
unfolding sum
less_its_equal a b c C h =
    let n : a - b ≡ 0 = omega arith in
    simp (le-ltb a b (omega arith), n) (round_same binary64 false 0 c 0 1 C (omega arith) (omega arith) ∙ zero_is)

less_one : (m : ℕ) (e : ℤ) → m * up e * 1 ≡ 1 * down e → sub binary64 F.one (fin false m e) ≡ F.zero
unfolding sub of_bits
less_one m e h = less_its_equal (1 * down e) (m * up e * 1) (1 * down e) (omega (arith, down_pos e)) (sym h)

either : (m : ℕ) (e : ℤ) (t : Bool) → lt (fin false m e) F.one ≡ t → T (le (fin false m e) F.one) → sub binary64 F.one (cond t (fin false m e) F.one) ≡ sub binary64 F.one (fin false m e)
unfolding le lt eq of_bits
either m e true p h = refl
either m e false p h =
    let g : T (eqb (m * up e * 1) (1 * down e) && true) = rw p at h in
    less_one 1 (pos 0) refl ∙ sym (less_one m e (eqb→eq (m * up e * 1) (1 * down e) (and_l (eqb (m * up e * 1) (1 * down e)) true g)))

as_much_left : (y : Float) → Unsigned y → T (le y F.one) → sub binary64 F.one (F.min_of y F.one) ≡ sub binary64 F.one y
unfolding F.min_of lt le ne eq sub of_bits round
as_much_left nan u h = absurd u
as_much_left (inf true) u h = absurd (true≢false u)
as_much_left (inf false) u h = absurd h
as_much_left (fin true m e) u h = absurd (true≢false u)
as_much_left (fin false m e) u h = either m e (lt (fin false m e) F.one) refl h

-- ---- by the difference without its sign

-- at 400 points and more, and at NaN, quality is 0.0
pub far : (d : Float) → lt (F.abs_of d) four_hundred ≡ false → quality_at d ≡ F.zero
unfolding quality_at F.abs_of F.min_of lt le ne eq sub div of_bits round
far nan h = refl
far (inf s) h = refl
far (fin s m e) h =
    let a = m * up e * 1 in
    let c = 25 * up (pos 4) * down e in
    let l : c ≤ a = ltb-false a c h in
    nothing_left (round binary64 false a c)
    (subst (λ (z : Float). T (le z (round binary64 false a c))) one_is (round_mono binary64 1 1 a c (omega arith) (omega (arith, down_pos e)) (omega arith)))

-- below that the quotient is at most 1.0, so it is the smaller
pub near : (d : Float) → lt (F.abs_of d) four_hundred ≡ true → quality_at d ≡ sub binary64 F.one (div binary64 (F.abs_of d) four_hundred)
unfolding quality_at F.abs_of F.min_of lt le ne eq sub div of_bits round
near nan h = absurd (true≢false (sym h))
near (inf s) h = absurd (true≢false (sym h))
near (fin s m e) h =
    let a = m * up e * 1 in
    let c = 25 * up (pos 4) * down e in
    let l : a < c = ltb-true a c h in
    as_much_left (round binary64 false a c) (rounded a c) (fraction a c (omega (arith, down_pos e)) (omega arith)).1

-- no lower bound would do: at the last float below 400.0 quality is 2^-53
pub last_below : quality_at (of_bits binary64 0x4078_ffff_ffff_ffff) ≡ of_bits binary64 0x3ca0_0000_0000_0000
unfolding quality_at F.abs_of F.min_of lt le ne eq sub div of_bits round
last_below = refl

-- ---- what tests on both sides tell, before the sign is dropped

-- below 400.0 and above -400.0: below 400 points
pub tested_near : (d : Float) → lt d four_hundred ≡ true → lt (neg four_hundred) d ≡ true → lt (F.abs_of d) four_hundred ≡ true
unfolding F.abs_of lt neg of_bits
tested_near nan h k = h
tested_near (inf true) h k = absurd (true≢false (sym k))
tested_near (inf false) h k = h
tested_near (fin true m e) h k = k
tested_near (fin false m e) h k = h

-- not below 400.0: 400 points and more, or NaN
pub tested_above : (d : Float) → lt d four_hundred ≡ false → lt (F.abs_of d) four_hundred ≡ false
unfolding F.abs_of lt of_bits
tested_above nan h = h
tested_above (inf s) h = refl
tested_above (fin false m e) h = h
tested_above (fin true m e) h = let z : ⊥ = omega (arith, down_pos e, ltb-false 0 (m * up e * 1 + 25 * up (pos 4) * down e) h) in absurd z

-- not above -400.0: the same
pub tested_below : (d : Float) → lt (neg four_hundred) d ≡ false → lt (F.abs_of d) four_hundred ≡ false
unfolding F.abs_of lt neg of_bits
tested_below nan h = refl
tested_below (inf s) h = refl
tested_below (fin true m e) h = h
tested_below (fin false m e) h = let z : ⊥ = omega (arith, down_pos e, ltb-false 0 (25 * up (pos 4) * down e + m * up e * 1) h) in absurd z
