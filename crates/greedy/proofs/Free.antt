-- Of those who are free the nearest is the nearest unused entry: a used place has NaN for its rating, and no distance from there is below another.
use Prim.Native.Nat.{ℕ, zero, suc, ◌+◌, ◌*◌}
use mathlib.Core.Path.{◌≡◌, refl, sym, ap, ◌∙◌}
use mathlib.Core.Bool.{Bool, true, false, cond, true≢false}
use mathlib.Core.List.{List, [], ◌∷◌}
use native.Mathlib.Nat.{zero-add, add-zero}
use native.Mathlib.Omega.{arith}
use borrow.Author.Tests.{ltb-false, le-ltb}
use lib.Dec.{eqb}
use lib.IntN.{ℤ}
use lib.Ieee.{Float, nan, inf, fin, binary64, up, down, add, sub, neg, lt, of_bits}
use lib.ListN.{length, get_or, replicate}
use Rattle.base.specs.Floats as F
use Rattle.base.specs.Lists.{times}
use Rattle.base.proofs.Cases.{cases}
use Rattle.base.proofs.Sign.{negative}
use Rattle.greedy.specs.Steps.{Near, nearer, nearest_place, struck, marked, free_of, magnitude_of, nearer_free, nearest_free}

-- ---- the code's distance: only the sign of a zero can differ, which no comparison tells

module _ (m : ℕ) (e : ℤ) (none : m * up e ≡ 0) where
  -- a zero over any denominator
  zero_over : (d : ℕ) → m * up e * d ≡ 0
  zero_over d =
      let o : 0 * d ≡ 0 = omega arith in
      ap (λ (x : ℕ). x * d) none ∙ o

  -- -0.0 is below whatever 0.0 is below
  zero_below : (z : Float) → lt (fin true m e) z ≡ lt (fin false m e) z
  unfolding lt
  zero_below nan = refl
  zero_below (inf t) = refl
  zero_below (fin false n d) = rw (zero_over (down d), zero-add (n * up d * down e))
  zero_below (fin true n d) = rw (zero_over (down d)) (le-ltb (n * up d * down e) 0 (omega arith))

  -- whatever is below -0.0 is below 0.0
  below_zero : (z : Float) → lt z (fin true m e) ≡ lt z (fin false m e)
  unfolding lt
  below_zero nan = refl
  below_zero (inf s) = refl
  below_zero (fin false n d) = rw (zero_over (down d)) (sym (le-ltb (n * up d * down e) 0 (omega arith)))
  below_zero (fin true n d) = rw (zero_over (down d), add-zero (n * up d * down e))

-- a negative float that is not below 0.0 is -0.0
minus_zero : (m : ℕ) (e : ℤ) → lt (fin true m e) F.zero ≡ false → m * up e ≡ 0
unfolding lt of_bits
minus_zero m e h = omega (arith, ltb-false 0 (m * up e * 1 + 0 * down e) h)

-- what is not below 0.0 is compared as its absolute value is
unsigned_below : (x z : Float) → lt x F.zero ≡ false → lt x z ≡ lt (F.abs_of x) z
unfolding lt of_bits F.abs_of
unsigned_below nan z h = refl
unsigned_below (inf true) z h = absurd (true≢false h)
unsigned_below (inf false) z h = refl
unsigned_below (fin false m e) z h = refl
unsigned_below (fin true m e) z h = zero_below m e (minus_zero m e h) z

below_unsigned : (x z : Float) → lt x F.zero ≡ false → lt z x ≡ lt z (F.abs_of x)
unfolding lt of_bits F.abs_of
below_unsigned nan z h = refl
below_unsigned (inf true) z h = absurd (true≢false h)
below_unsigned (inf false) z h = refl
below_unsigned (fin false m e) z h = refl
below_unsigned (fin true m e) z h = below_zero m e (minus_zero m e h) z

-- the magnitude is compared as the absolute value is
magnitude_below : (x z : Float) → lt (magnitude_of x) z ≡ lt (F.abs_of x) z
unfolding magnitude_of
magnitude_below x z =
    cases (lt x F.zero) (λ t. rw t (ap (λ (y : Float). lt y z) (negative x t))) (λ f. rw f (unsigned_below x z f))

below_magnitude : (x z : Float) → lt z (magnitude_of x) ≡ lt z (F.abs_of x)
unfolding magnitude_of
below_magnitude x z =
    cases (lt x F.zero) (λ t. rw t (ap (lt z) (negative x t))) (λ f. rw f (below_unsigned x z f))

-- ---- the column of those who are free

-- what it has at a place
free_at : (ratings : List Float) (used : List Bool) (i : ℕ) → get_or (free_of ratings used) i nan ≡ cond (get_or used i false) nan (get_or ratings i nan)
unfolding free_of
free_at [] us i = cases (get_or us i false) (λ t. rw t) (λ f. rw f)
free_at (r ∷ rs) [] i = refl
free_at (r ∷ rs) (u ∷ us) zero = refl
free_at (r ∷ rs) (u ∷ us) (suc i) = free_at rs us i

-- at first all are free
pub free_all : (ratings : List Float) (k : ℕ) → ratings ≡ free_of ratings (replicate k false)
unfolding free_of
free_all [] k = refl
free_all (r ∷ rs) zero = refl
free_all (r ∷ rs) (suc k) = ap (λ (l : List Float). r ∷ l) (free_all rs k)

-- a column stays as long as it was
length_struck : {A : Type 0} (a : A) (p : ℕ) (players : List ℕ) (us : List A) → length (struck a p players us) ≡ length us
unfolding struck
length_struck a p [] us = refl
length_struck a p (x ∷ xs) [] = refl
length_struck a p (x ∷ xs) (u ∷ us) = ap suc (length_struck a p xs us)

-- a place is marked: it is free no longer
strike_one : (b u : Bool) (r : Float) → cond b nan (cond u nan r) ≡ cond (cond b true u) nan r
strike_one true u r = refl
strike_one false u r = refl

-- every place of the player is marked: none of them is free any longer
pub free_struck : (p : ℕ) (players : List ℕ) (ratings : List Float) (used : List Bool) → length used ≡ length ratings → struck nan p players (free_of ratings used) ≡ free_of ratings (marked p players used)
unfolding struck free_of
free_struck p [] rs us h = refl
free_struck p (x ∷ xs) [] us h = refl
free_struck p (x ∷ xs) (r ∷ rs) [] h = absurd (omega (arith, h))
free_struck p (x ∷ xs) (r ∷ rs) (u ∷ us) h = rw (strike_one (eqb x p) u r, free_struck p xs rs us (omega (arith, h)))

-- a player is marked and free no longer: the column is still that of those who are free
pub still_free : (p : ℕ) (players : List ℕ) (ratings : List Float) (used : List Bool) {u : List Bool} {free f : List Float} → length ratings ≡ 64 → length used ≡ 64 → free ≡ free_of ratings used → u ≡ marked p players used → f ≡ struck nan p players free → (length u ≡ 64) × (f ≡ free_of ratings u)
still_free p players ratings used lr lu e g h =
    (ap length g ∙ length_struck true p players used ∙ lu, h ∙ ap (struck nan p players) e ∙ free_struck p players ratings used (lu ∙ sym lr) ∙ ap (free_of ratings) (sym g))

-- ---- the nearest

-- no distance from NaN is below another
nowhere : (reference x : Float) → lt (magnitude_of (sub binary64 reference nan)) x ≡ false
unfolding magnitude_of sub add neg lt
nowhere nan x = refl
nowhere (inf s) x = refl
nowhere (fin s m e) x = refl

-- the same place, and distances that compare alike
abbrev Alike : Near → Near → Type 0
Alike b c = (b.place ≡ c.place) × ((z : Float) → lt z b.distance ≡ lt z c.distance)

module _ (reference : Float) (ratings : List Float) (used : List Bool) where
  -- one place more
  nearer_alike : (i : ℕ) (b c : Near) → Alike b c → Alike (nearer_free reference (free_of ratings used) i b) (nearer reference ratings used i c)
  unfolding nearer_free nearer
  nearer_alike i b c h =
      let x = sub binary64 reference (get_or ratings i nan) in
      let k : lt (magnitude_of x) b.distance ≡ lt (F.abs_of x) c.distance = magnitude_below x b.distance ∙ h.1 (F.abs_of x) in
      rw (free_at ratings used i)
      (cases (get_or used i false)
      (λ t. rw (t, nowhere reference b.distance) h)
      (λ f. rw (f, k) (cases (lt (F.abs_of x) c.distance) (λ t. rw t (refl, below_magnitude x)) (λ g. rw g h))))

  -- the first i places
  times_alike : (s : Near) (i : ℕ) → Alike (times (nearer_free reference (free_of ratings used)) s i) (times (nearer reference ratings used) s i)
  unfolding times
  times_alike s zero = (refl, λ z. refl)
  times_alike s (suc i) = nearer_alike i _ _ (times_alike s i)

  -- the nearest of those who are free is the nearest unused
  pub nearest_free_lem : (n : ℕ) {free : List Float} {next : ℕ} → free ≡ free_of ratings used → next ≡ nearest_free reference free n → next ≡ nearest_place reference ratings used n
  nearest_free_lem n e h = h ∙ ap (λ (free : List Float). nearest_free reference free n) e ∙ (times_alike (record { place = n; distance = inf false }) n).0
