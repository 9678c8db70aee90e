-- An outcome in numbers, as it stands in a struct that crosses to C: the refusal, 0 where there is none, and the value, a given one
-- where it is refused.
use Rattle.std.specs.Prelude.{ℕ, zero, suc}
use Rattle.base.specs.Refusals.{Outcome, refused, gives}

module _ {A : Type 0} where
  abbrev pub refusal_of : Outcome A → ℕ
  refusal_of (refused n) = n
  refusal_of (gives a) = 0

  abbrev pub value_or : A → Outcome A → A
  value_or d (refused n) = d
  value_or d (gives a) = a

  -- back from numbers: the outcome that a refusal and a value tell
  abbrev pub outcome_in : ℕ → A → Outcome A
  outcome_in zero a = gives a
  outcome_in (suc n) a = refused (suc n)
