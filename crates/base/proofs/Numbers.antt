-- Outcomes come back whole from their numbers.
use Prim.Native.Nat.{ℕ, zero, suc}
use mathlib.Core.Path.{◌≡◌, refl}
use mathlib.Core.Bool.{false}
use lib.Dec.{eqb}
use Rattle.base.specs.Refusals.{refused, gives, refusal_number, outcome_of}
use Rattle.base.specs.Numbers.{refusal_of, outcome_in}
use Rattle.std.specs.Prelude.{Result}
use Rattle.std.specs.Prelude.{Ok, Err}
use Rattle.base.specs.declared.Refusal.{Refusal}
use Rattle.base.specs.declared.Refusal.TheVariants.{OverLimit, BadRoster, ShortSheet, Clock, Unranked, TooWide, KeyClash, BookFull, AlreadyWaiting, HallFull, NotWaiting, NoSeats, NoGame}
use Rattle.base.proofs.Cases.{never}

module _ {A : Type 0} where
  -- no refusal has the number 0
  pub refusal_back : (x : Refusal) (a : A) → outcome_in (refusal_number x) a ≡ refused (refusal_number x)
  refusal_back OverLimit a = refl
  refusal_back BadRoster a = refl
  refusal_back ShortSheet a = refl
  refusal_back Clock a = refl
  refusal_back Unranked a = refl
  refusal_back TooWide a = refl
  refusal_back KeyClash a = refl
  refusal_back BookFull a = refl
  refusal_back AlreadyWaiting a = refl
  refusal_back HallFull a = refl
  refusal_back NotWaiting a = refl
  refusal_back NoSeats a = refl
  refusal_back NoGame a = refl

  -- 0 tells the value, and every other number a refusal
  pub number_accepts : (n : ℕ) (a : A) → n ≡ 0 → outcome_in n a ≡ gives a
  number_accepts n a e = rw e

  pub number_refuses : (n : ℕ) (a : A) → eqb n 0 ≡ false → outcome_in n a ≡ refused n
  number_refuses zero a e = never cc
  number_refuses (suc n) a e = refl

-- a number, back from what it tells
pub number_back : (n : ℕ) → refusal_of (outcome_in n (tt {0})) ≡ n
number_back zero = refl
number_back (suc n) = refl

-- a check, back from its number
pub checked_back : (k : Result Unit Refusal) → outcome_in (refusal_of (outcome_of k)) tt ≡ outcome_of k
checked_back (Ok u) = refl
checked_back (Err x) = refusal_back x tt
