-- What may or may not be found, as it crosses to C: whether it is, and the value, a given one where it is not.
use Rattle.std.specs.Prelude.{Bool, true, false}
use Rattle.std.specs.Prelude.{Option, None, Some}
use Rattle.base.specs.Refusals.{Outcome, refused, gives}

module _ {A : Type 0} where
  abbrev pub found_in : Outcome (Option A) → Bool
  found_in (refused n) = false
  found_in (gives None) = false
  found_in (gives (Some a)) = true

  abbrev pub found_or : A → Outcome (Option A) → A
  found_or d (refused n) = d
  found_or d (gives None) = d
  found_or d (gives (Some a)) = a
