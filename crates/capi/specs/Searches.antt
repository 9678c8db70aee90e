-- What the exported searches and generators answer, and the sheets as they leave them.
use Rattle.std.specs.Prelude.{ℕ, ◌≡◌, List, Float}
use Rattle.base.specs.Refusals.{Outcome}
use Rattle.seating.specs.Seating.{Sheets, HandedOut}
use Rattle.base.specs.Numbers.{refusal_of, value_or}
use Rattle.capi.specs.declared.searches.Formed.{Formed}

abbrev pub formed_numbers : Outcome ℕ → Formed
formed_numbers o = record { count = value_or 0 o; refusal = refusal_of o }

abbrev pub sheets : List ℕ → List Float → Sheets
sheets players qualities = record { players = players; qualities = qualities }

-- the answer in numbers beside the final content of the sheets
pub record SearchNumbers (h : HandedOut) (r : Formed) (players : List ℕ) (qualities : List Float) : Type 0 where
  pub answer : r ≡ formed_numbers h.answer
  pub left : sheets players qualities ≡ h.sheets
