-- Floats that are equal as values: both are numbers, and neither is below the other.
use Prim.Native.Nat.{ℕ, ◌+◌, ◌*◌}
use mathlib.Core.Path.{◌≡◌, refl}
use mathlib.Core.Bool.{Bool, true, false}
use native.Mathlib.Omega.{arith}
use borrow.Author.Tests.{ltb-false, le-ltb, eqb-true, eq-eqb}
use lib.Dec.{eqb}
use lib.Ieee.{Float, nan, inf, fin, up, down, below, level, lt, eq}
use Rattle.base.proofs.Cases.{cases, never}
use Rattle.base.proofs.Checks.{both_hold}
use Rattle.base.proofs.Order.{not_lt_trans, level_trans}

-- ---- numerators with their signs

-- what is level is below neither way
level_below : (s t : Bool) (a b : ℕ) → level s a t b ≡ true → (below s a t b ≡ false) × (below t b s a ≡ false)
level_below false false a b h =
    let e = eqb-true a b (both_hold (eqb a b) true h).0 in
    (le-ltb a b (omega arith), le-ltb b a (omega arith))
level_below true true a b h =
    let e = eqb-true a b (both_hold (eqb a b) true h).0 in
    (le-ltb b a (omega arith), le-ltb a b (omega arith))
level_below false true a b h =
    let k = both_hold (eqb a b) (eqb a 0) h in
    let e = eqb-true a b k.0 in
    let z = eqb-true a 0 k.1 in
    (refl, le-ltb 0 (b + a) (omega arith))
level_below true false a b h =
    let k = both_hold (eqb a b) (eqb a 0) h in
    let e = eqb-true a b k.0 in
    let z = eqb-true a 0 k.1 in
    (le-ltb 0 (a + b) (omega arith), refl)

-- what is below neither way is level
below_neither : (s t : Bool) (a b : ℕ) → below s a t b ≡ false → below t b s a ≡ false → level s a t b ≡ true
below_neither false false a b h k = rw (eq-eqb a b (omega (arith, ltb-false a b h, ltb-false b a k)))
below_neither true true a b h k = rw (eq-eqb a b (omega (arith, ltb-false b a h, ltb-false a b k)))
below_neither false true a b h k =
    let z = ltb-false 0 (b + a) k in
    rw (eq-eqb a b (omega arith), eq-eqb a 0 (omega arith))
below_neither true false a b h k =
    let z = ltb-false 0 (a + b) h in
    rw (eq-eqb a b (omega arith), eq-eqb a 0 (omega arith))

-- ---- floats

pub record Level (x y : Float) : Type 0 where
  pub left : x ≡ nan → ⊥
  pub right : y ≡ nan → ⊥
  pub under : lt x y ≡ false
  pub over : lt y x ≡ false

-- equal floats are level
pub eq_level : (x y : Float) → eq x y ≡ true → Level x y
unfolding lt eq
eq_level nan y h = never cc
eq_level (inf s) nan h = never cc
eq_level (inf true) (inf true) h = record { left = λ e. never cc; right = λ e. never cc; under = refl; over = refl }
eq_level (inf true) (inf false) h = never cc
eq_level (inf false) (inf true) h = never cc
eq_level (inf false) (inf false) h = record { left = λ e. never cc; right = λ e. never cc; under = refl; over = refl }
eq_level (inf s) (fin t n d) h = never cc
eq_level (fin s m e) nan h = never cc
eq_level (fin s m e) (inf t) h = never cc
eq_level (fin s m e) (fin t n d) h =
    let k = level_below s t (m * up e * down d) (n * up d * down e) h in
    record { left = λ z. never cc; right = λ z. never cc; under = k.0; over = k.1 }

-- and level ones are equal
pub level_eq : (x y : Float) → Level x y → eq x y ≡ true
unfolding lt eq
level_eq nan y l = absurd (l.left refl)
level_eq (inf s) nan l = absurd (l.right refl)
level_eq (inf true) (inf true) l = refl
level_eq (inf true) (inf false) l = let z = l.under in never cc
level_eq (inf false) (inf true) l = let z = l.over in never cc
level_eq (inf false) (inf false) l = refl
level_eq (inf true) (fin t n d) l = let z = l.under in never cc
level_eq (inf false) (fin t n d) l = let z = l.over in never cc
level_eq (fin s m e) nan l = absurd (l.right refl)
level_eq (fin s m e) (inf true) l = let z = l.over in never cc
level_eq (fin s m e) (inf false) l = let z = l.under in never cc
level_eq (fin s m e) (fin t n d) l = below_neither s t (m * up e * down d) (n * up d * down e) l.under l.over

pub eq_sym : (x y : Float) → eq x y ≡ true → eq y x ≡ true
eq_sym x y h = let l = eq_level x y h in level_eq y x (record { left = l.right; right = l.left; under = l.over; over = l.under })

pub eq_trans : (x y z : Float) → eq x y ≡ true → eq y z ≡ true → eq x z ≡ true
eq_trans x y z h k =
    let l = eq_level x y h in
    let m = eq_level y z k in
    let t = level_trans x y z l.right (l.under, l.over) (m.under, m.over) in
    level_eq x z (record { left = l.left; right = m.right; under = t.0; over = t.1 })

-- what is equal to one that is below z is below z
pub eq_lt : (x y z : Float) → eq x y ≡ true → lt y z ≡ true → lt x z ≡ true
eq_lt x y z h k =
    let l = eq_level x y h in
    cases (lt x z) (λ t. t) (λ f. let n = not_lt_trans y x z l.left l.over f in never cc)

-- what is below one that is equal to z is below z
pub lt_eq : (x y z : Float) → lt x y ≡ true → eq y z ≡ true → lt x z ≡ true
lt_eq x y z h k =
    let l = eq_level y z k in
    cases (lt x z) (λ t. t) (λ f. let n = not_lt_trans x z y l.right f l.over in never cc)

-- what is not below one that is equal to z is not below z
pub eq_not_lt : (x y z : Float) → lt x y ≡ false → eq z y ≡ true → lt x z ≡ false
eq_not_lt x y z h k =
    let l = eq_level z y k in
    not_lt_trans x y z l.right h l.over

-- what is below another is a number
pub lt_number : (x y : Float) → lt x y ≡ true → x ≡ nan → ⊥
unfolding lt
lt_number nan y h k = never cc
lt_number (inf s) y h k = never cc
lt_number (fin s m e) y h k = never cc
