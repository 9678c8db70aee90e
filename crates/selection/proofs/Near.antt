-- LexicographicSelection never loses all of a list that isn't empty: one candidate has the highest value, and a value less 0.001
-- is not above itself.
use Prim.Native.Nat.{ℕ, zero, suc, ◌+◌, ◌-◌, ◌*◌, ◌^◌, ◌%◌, ◌≤◌, ◌<◌}
use native.Mathlib.Nat.{mul_assoc, mul-one, one-mul, mul_comm, mul_right_comm, mul-pos, mul-le-mul_right, mul-lt-mul_of_pos_right, lt_of_mul-lt-mul_right, le_trans, le_of_eq}
use native.Mathlib.Omega.{arith}
use native.Mathlib.Numerals.{unary_clauses}
use mathlib.Core.Path.{◌≡◌, refl, sym, ap, ◌∙◌, subst}
use mathlib.Core.Logic.{◌⊎◌, inl, inr}
use mathlib.Core.Bool.{Bool, true, false, cond, ◌&&◌, ◌||◌, true≢false}
use mathlib.Core.List.Memᴰ
use mathlib.Core.List.{List, [], ◌∷◌, map, foldl, Memᴰ}
use borrow.Author.Tests.{lt-ltb, ltb-true, leb-true, leb-false}
use lib.Dec.{T, ltb, leb, eqb, ltb→lt, leb→le, eqb→eq}
use lib.IntN.{ℤ, pos, negsuc}
use lib.Pow.{pow-add, pow_pos, pow-lt}
use lib.Ieee.{Float, nan, inf, fin, Format, binary64, prec, emax, low, up, down, lt, le, eq, ne, neg, add, sum, sub, round, units, odd, fits, of_bits}
use lib.Ieee.Bits.{is_true, of_bits-fits}
use lib.Ieee.Fits.{up_pos, down_pos, round_is, and_l, and_r, sub-fits}
use lib.Ieee.Exact.{HasValue, round_exact}
use lib.Ieee.Order.{round_mono, le_of_values}
use lib.Ieee.Positive.{through}
use lib.ListN.{length, take, length-map}
use Rattle.base.specs.Floats as F
use Rattle.base.specs.Lists.{keep}
use Rattle.base.specs.Refusals.{Outcome, refused, gives, guarded}
use Rattle.base.proofs.Cases.{cases, never, pick}
use Rattle.roster.specs.Roster.{Roster, ratings_check}
use Rattle.matchmaker.specs.Quality.{MatchState, quality_at}
use Rattle.matchmaker.proofs.Bounds.{quality_bounded}
use Rattle.objective.specs.declared.soft.SoftObjective.{SoftObjective}
use Rattle.objective.specs.declared.soft.SoftObjective.TheVariants.{Skill, Latency, Wait}
use Rattle.objective.specs.Soft.{half, latency_at, soft_value_of}
use Rattle.objective.proofs.Values.{latency_low, value_not_nan}
use Rattle.selection.specs.Selection.{Candidates, too_much, thousandth, max_of, StillIn, placed, value_of, near_best, narrowed, lexicographic_rule}

-- ---- for base: what a format holds, less something, rounds to no more than it was

-- the four parts of what `fits` says of a finite value that is not zero
parts : (a b c d : Bool) → T (a && b && c && d) → T b × T c × T d
parts a b c d t =
    let u : T (a && b && c) = and_l (a && b && c) d t in
    (and_r a b (and_l (a && b) c u), and_r (a && b) c u, and_r (a && b && c) d t)

-- an exponent within the format is a whole number of its smallest steps
steps : (l : ℕ) (e : ℤ) → down e ≤ 2 ^ l → (j : ℕ) × (up e * 2 ^ l ≡ 2 ^ j * down e)
steps l (pos k) h = (k + l, sym (pow-add 2 k l) ∙ sym (mul-one (2 ^ (k + l))))
steps l (negsuc k) h =
    let s : suc k ≤ l = within l (suc k) h in
    let b : l - suc k + suc k ≡ l = omega arith in
    (l - suc k, one-mul (2 ^ l) ∙ ap (λ (x : ℕ). 2 ^ x) (sym b) ∙ pow-add 2 (l - suc k) (suc k))
  where
    within : (i j : ℕ) → 2 ^ j ≤ 2 ^ i → j ≤ i
    within i j q = cases (leb j i) (λ t. leb-true j i t) (λ f. let o : i < j = leb-false j i f in let p = pow-lt o in absurd (omega arith))

module _ (f : Format) (m : ℕ) (e : ℤ) (held : T (fits f (fin false (suc m) e))) where
  -- such a value is rounded to itself
  exact : HasValue (round f false (suc m * up e) (down e)) false (suc m * up e) (down e)
  unfolding fits
  exact =
      let p = parts (eqb (suc m % 2) 1) (ltb (suc m) (2 ^ prec f)) (leb (down e) (2 ^ low f)) (ltb (suc m * up e) (2 ^ suc (emax f) * down e)) held in
      let s = steps (low f) e (leb→le (down e) (2 ^ low f) p.1) in
      let j = s.0 in
      let h : suc m * up e * 2 ^ low f ≡ suc m * 2 ^ j * down e = mul_assoc (suc m) (up e) (2 ^ low f) ∙ ap (λ (x : ℕ). suc m * x) s.1 ∙ sym (mul_assoc (suc m) (2 ^ j) (down e)) in
      let k : suc m * up e * 2 ^ low f < 2 ^ suc (emax f) * down e * 2 ^ low f = mul-lt-mul_of_pos_right (ltb→lt (suc m * up e) (2 ^ suc (emax f) * down e) p.2) (pow_pos (low f)) in
      let g : 2 ^ suc (emax f) * down e * 2 ^ low f ≡ 2 ^ (low f + suc (emax f)) * down e =
      mul_right_comm (2 ^ suc (emax f)) (down e) (2 ^ low f) ∙ ap (λ (x : ℕ). x * down e) (mul_comm (2 ^ suc (emax f)) (2 ^ low f) ∙ sym (pow-add 2 (low f) (suc (emax f)))) in
      let fine : suc m * 2 ^ j < 2 ^ (low f + suc (emax f)) = lt_of_mul-lt-mul_right (down e) (subst (λ (x : ℕ). x < 2 ^ (low f + suc (emax f)) * down e) h (subst (λ (x : ℕ). suc m * up e * 2 ^ low f < x) g k)) in
      round_exact f false (suc m * up e) (down e) (suc m) j (down_pos e) (ltb→lt (suc m) (2 ^ prec f) p.0) fine h

-- a value with a sign is below one without
signed_below : (m : ℕ) (e : ℤ) (n : ℕ) (d : ℤ) → T (le (fin true n d) (fin false (suc m) e))
unfolding le lt
signed_below m e n d =
    let p : 0 < suc m * up e * down d = mul-pos (mul-pos (omega arith) (up_pos e)) (down_pos d) in
    rw (lt-ltb 0 (n * up d * down e + suc m * up e * down d) (omega arith)) tt

-- and so is what rounding gives of a fraction with a sign
module _ (f : Format) (m : ℕ) (e : ℤ) where
  signed_odd : (d q k l : ℕ) → T (le (odd d true q k l) (fin false (suc m) e))
  unfolding odd
  signed_odd d zero k l = signed_below m e zero (pos zero)
  signed_odd d (suc q) k l = signed_below m e _ _

  signed_inf : T (le (inf true) (fin false (suc m) e))
  unfolding le lt
  signed_inf = tt

  signed_units : (q k : ℕ) → T (le (units f true q k) (fin false (suc m) e))
  unfolding units
  signed_units q k = pick (λ (z : Float). T (le z (fin false (suc m) e))) (ltb (q * 2 ^ k) (2 ^ (low f + suc (emax f)))) (signed_odd (suc (prec f)) q k (low f)) signed_inf

  signed_rounded : (a c : ℕ) → T (le (round f true a c) (fin false (suc m) e))
  signed_rounded a c = subst (λ (z : Float). T (le z (fin false (suc m) e))) (sym (round_is f true a c)) (signed_units _ _)

lt_or_eq : (a b : ℕ) → T (ltb a b || (eqb a b && true)) → a ≤ b
lt_or_eq a b t =
    cases (ltb a b) (λ y. let h : a < b = ltb-true a b y in omega arith)
    (λ f. let u : T (eqb a b && true) = rw f at t in let g : a ≡ b = eqb→eq a b (and_l (eqb a b) true u) in omega arith)

-- what is not above a value's rounding to itself is not above the value
under_exact : (m : ℕ) (e : ℤ) (y x : Float) → HasValue y false (suc m * up e) (down e) → T (le x y) → T (le x (fin false (suc m) e))
unfolding le lt eq
under_exact m e nan x v h = absurd v
under_exact m e (inf s) x v h = absurd v
under_exact m e (fin true n d) x v h = absurd (true≢false v.0)
under_exact m e (fin false n d) nan v h = absurd h
under_exact m e (fin false n d) (inf true) v h = tt
under_exact m e (fin false n d) (inf false) v h = absurd h
under_exact m e (fin false n d) (fin true k c) v h = signed_below m e k c
under_exact m e (fin false n d) (fin false k c) v h =
    let q : n * up d * down e ≤ suc m * up e * down d = omega (arith, v.1) in
    le_of_values (fin false k c) (fin false (suc m) e) (k * up c) (down c) (suc m * up e) (down e) (down_pos c) (down_pos e) (refl, refl) (refl, refl)
    (through (k * up c) (n * up d) (suc m * up e) (down c) (down d) (down e) (down_pos d) (lt_or_eq (k * up c * down d) (n * up d * down c) h) q)

-- so what is held, less a value without a sign, is not above it
pub less_low : (f : Format) (m : ℕ) (e : ℤ) (n : ℕ) (d : ℤ) → T (fits f (fin false (suc m) e)) → T (le (sub f (fin false (suc m) e) (fin false n d)) (fin false (suc m) e))
unfolding sub add neg sum
less_low f m e n d held =
    let a = suc m * up e * down d in
    let b = n * up d * down e in
    let c = down e * down d in
    let h : (a - b) * down e ≤ suc m * up e * c =
    le_trans (mul-le-mul_right (down e) (let z : a - b ≤ a = omega arith in z)) (le_of_eq (mul_assoc (suc m * up e) (down d) (down e) ∙ ap (λ (x : ℕ). suc m * up e * x) (mul_comm (down d) (down e)))) in
    let r : T (le (round f false (a - b) c) (fin false (suc m) e)) =
    under_exact m e (round f false (suc m * up e) (down e)) (round f false (a - b) c) (exact f m e held)
    (round_mono f (a - b) c (suc m * up e) (down e) (mul-pos (down_pos e) (down_pos d)) (down_pos e) h) in
    pick (λ (z : Float). T (le z (fin false (suc m) e))) (ltb a b) (signed_rounded f m e (b - a) c) r

-- ---- 0.001

thousandth_is : thousandth ≡ fin false 0x4_1893_74bc_6a7f (negsuc 59)
unfolding of_bits
thousandth_is = refl

only_zero : (e : ℤ) → up e * down e ≡ 1 → e ≡ pos 0
only_zero (pos zero) h = refl
only_zero (pos (suc k)) h = let g = simp unary_clauses at h in let z : ⊥ = omega (arith, pow_pos k) in absurd z
only_zero (negsuc k) h = let g = simp unary_clauses at h in let z : ⊥ = omega (arith, pow_pos k) in absurd z

zeros : (s : Bool) → T (le (sub binary64 (fin s 0 (pos 0)) thousandth) (fin s 0 (pos 0)))
unfolding le lt eq sub add neg sum round of_bits
zeros true = tt
zeros false = tt

at_zero : (s : Bool) (e : ℤ) → T (fits binary64 (fin s zero e)) → T (le (sub binary64 (fin s zero e) thousandth) (fin s zero e))
unfolding fits
at_zero s e h = subst (λ (d : ℤ). T (le (sub binary64 (fin s zero d) thousandth) (fin s zero d))) (sym (only_zero e (eqb→eq (up e * down e) 1 h))) (zeros s)

no_minus : (m : ℕ) (e : ℤ) → T (le F.zero (fin true (suc m) e)) → ⊥
unfolding le lt eq of_bits
no_minus m e h =
    let p : 0 < suc m * up e * 1 = mul-pos (mul-pos (omega arith) (up_pos e)) (omega arith) in
    let q : 0 * down e ≡ suc m * up e * 1 = eqb→eq (0 * down e) (suc m * up e * 1) (and_l (eqb (0 * down e) (suc m * up e * 1)) (eqb (0 * down e) 0) h) in
    omega arith

nan_not_low : T (le F.zero nan) → ⊥
unfolding le lt eq of_bits
nan_not_low z = z

inf_not_low : T (le F.zero (inf true)) → ⊥
unfolding le lt eq of_bits
inf_not_low z = z

endless : T (le (sub binary64 (inf false) thousandth) (inf false))
unfolding le lt eq sub add neg of_bits
endless = tt

-- a value of at least 0.0, less 0.001, is not above it
pub less_thousandth : (x : Float) → T (le F.zero x) → T (fits binary64 x) → T (le (sub binary64 x thousandth) x)
less_thousandth nan z h = absurd (nan_not_low z)
less_thousandth (inf true) z h = absurd (inf_not_low z)
less_thousandth (inf false) z h = endless
less_thousandth (fin true zero e) z h = at_zero true e h
less_thousandth (fin false zero e) z h = at_zero false e h
less_thousandth (fin true (suc m) e) z h = absurd (no_minus m e z)
less_thousandth (fin false (suc m) e) z h = rw thousandth_is (less_low binary64 m e 0x4_1893_74bc_6a7f (negsuc 59) h)

-- ---- the values of soft objectives are at least 0.0, and floats of 64 bits

half_low : T (le F.zero half)
unfolding le lt eq of_bits
half_low = tt

value_low : (r : Roster) (m : MatchState) (o : SoftObjective) → T (le F.zero (soft_value_of r m o))
value_low r m (Skill w) = (quality_bounded _).0
value_low r m (Latency w) = latency_low _
value_low r m (Wait w) = half_low

value_fits : (r : Roster) (m : MatchState) (o : SoftObjective) → T (fits binary64 (soft_value_of r m o))
unfolding quality_at latency_at
value_fits r m (Skill w) = sub-fits binary64 _ _
value_fits r m (Latency w) = sub-fits binary64 _ _
value_fits r m (Wait w) = of_bits-fits binary64 _

-- ---- one candidate has the highest value

highest_first : (x : Float) → (x ≡ nan → ⊥) → max_of (inf true) x ≡ x
unfolding max_of lt ne eq
highest_first nan n = absurd (n refl)
highest_first (inf true) n = refl
highest_first (inf false) n = refl
highest_first (fin s m e) n = refl

module _ {A : Type 0} (v : A → Float) where
  -- the larger of two values is one of them
  larger : (a b : A) → (k : A) × ((k ≡ a) ⊎ (k ≡ b)) × (max_of (v a) (v b) ≡ v k)
  unfolding max_of
  larger a b =
      cases (lt (v a) (v b)) (λ t. (b, inr refl, rw t))
      (λ f. cases (ne (v a) (v a)) (λ t. (b, inr refl, rw (f, t))) (λ g. (a, inl refl, rw (f, g))))

  -- and so is the largest of all
  largest : (a : A) (xs : List A) → (k : A) × Memᴰ k (a ∷ xs) × (foldl max_of (v a) (map v xs) ≡ v k)
  largest a [] = (a, Memᴰ.head refl, refl)
  largest a (b ∷ xs) =
      let l = larger a b in
      let r = largest l.0 xs in
      (r.0, widen l.0 r.0 l.1 (Memᴰ.cases_cons r.1), ap (λ (x : Float). foldl max_of x (map v xs)) l.2 ∙ r.2)
    where
      widen : (j k : A) → (j ≡ a) ⊎ (j ≡ b) → (k ≡ j) ⊎ Memᴰ k xs → Memᴰ k (a ∷ b ∷ xs)
      widen j k (inl p) (inl e) = Memᴰ.head (e ∙ p)
      widen j k (inr p) (inl e) = Memᴰ.tail (Memᴰ.head (e ∙ p))
      widen j k (inl p) (inr n) = Memᴰ.tail (Memᴰ.tail n)
      widen j k (inr p) (inr n) = Memᴰ.tail (Memᴰ.tail n)

-- what p holds of is kept
keep_some : {A : Type 0} (p : A → Bool) (k : A) (xs : List A) → Memᴰ k xs → p k ≡ true → 0 < length (keep p xs)
unfolding keep
keep_some p k [] m h = absurd (Memᴰ.not-nil m)
keep_some p k (x ∷ xs) m h = go (Memᴰ.cases_cons m) (λ n. keep_some p k xs n h)
  where
    go : (k ≡ x) ⊎ Memᴰ k xs → (Memᴰ k xs → 0 < length (keep p xs)) → 0 < length (keep p (x ∷ xs))
    go (inl e) rest = let t : p x ≡ true = sym (ap p e) ∙ h in rw t (omega arith)
    go (inr n) rest = let i : 0 < length (keep p xs) = rest n in cases (p x) (λ t. rw t (omega arith)) (λ f. rw f i)

-- some are near the best
near_some : (r : Roster) (o : SoftObjective) (ks : List StillIn) → 0 < length ks → 0 < length (near_best r o ks)
near_some r o [] h = absurd (omega arith)
near_some r o (k ∷ ks) h =
    let v = value_of r o in
    let l = largest v k ks in
    let j = l.0 in
    let e : foldl max_of (inf true) (map v (k ∷ ks)) ≡ v j = ap (λ (x : Float). foldl max_of x (map v ks)) (highest_first (v k) (value_not_nan r k.match o)) ∙ l.2 in
    let t : le (sub binary64 (v j) thousandth) (v j) ≡ true = is_true _ (less_thousandth (v j) (value_low r j.match o) (value_fits r j.match o)) in
    keep_some (λ x. le (sub binary64 (foldl max_of (inf true) (map v (k ∷ ks))) thousandth) (v x)) j (k ∷ ks) l.1 (ap (λ (x : Float). le (sub binary64 x thousandth) (v j)) e ∙ t)

narrowed_some : (r : Roster) (os : List SoftObjective) (ks : List StillIn) → 0 < length ks → 0 < length (narrowed r os ks)
unfolding narrowed
narrowed_some r [] ks h = h
narrowed_some r (o ∷ os) ks h =
    let n = near_some r o ks h in
    pick (λ (l : List StillIn). 0 < length l) (eqb (length (near_best r o ks)) 1) n (narrowed_some r os (near_best r o ks) n)

given : (t : Bool) (o : Outcome Unit) {xs ys : List ℕ} → cond t (refused 1) (guarded o (gives xs)) ≡ gives ys → xs ≡ ys
given true o h = never cc
given false (refused n) h = never cc
given false (gives v) h = cc

placed_some : (at : ℕ) (ms : List MatchState) → 0 < length ms → 0 < length (placed at ms)
unfolding placed
placed_some at [] h = h
placed_some at (m ∷ ms) h = omega arith

-- whoever is given, LexicographicSelection leaves somebody of
pub lexicographic_leaves : (r : Roster) (objectives : List SoftObjective) (count : ℕ) (c : Candidates) {ps : List ℕ} → lexicographic_rule r objectives count c ≡ gives ps → 0 < length c.matches → 0 < length ps
lexicographic_leaves r objectives count c h some =
    let l = narrowed r (take count objectives) (placed 0 c.matches) in
    let e = given (too_much c count) (ratings_check r) h in
    let n : 0 < length l = narrowed_some r (take count objectives) (placed 0 c.matches) (placed_some 0 c.matches some) in
    rw (← e) (subst (λ (k : ℕ). 0 < k) (sym (length-map l (λ (k : StillIn). k.place))) n)
