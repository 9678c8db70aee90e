-- Rows found once, for many look-ups: what a sheet of rows holds, and what a column says in a row. Where nobody has two rows this is what the
-- column says of a player (`value_observed` in proofs/Laws).
use Rattle.std.specs.Prelude.{ℕ, zero, suc, List, [], ◌∷◌, map, length, take}
use Rattle.std.specs.Prelude.{Option, None, Some}
use Rattle.base.specs.Refusals.{Outcome, refused, gives}
use Rattle.base.specs.Sheets.{laid}
use Rattle.roster.specs.Roster.{row_of}

-- a sheet behind a check: as it came where that refuses, and else each player's row from the first place on, as far as both go
abbrev pub found_rows : Outcome Unit → List ℕ → List ℕ → List ℕ → List ℕ
found_rows (refused n) ids players sheet = sheet
found_rows (gives u) ids players sheet = laid sheet 0 (take (length sheet) (map (λ p. row_of p ids) players))

-- what a column says in a row, and nothing below its last
unfoldable pub value_at : {A : Type 0} → List A → ℕ → Option A
value_at [] row = None
value_at (x ∷ xs) zero = Some x
value_at (x ∷ xs) (suc row) = value_at xs row
