-- `matchmaker::add_rows` meets its contract: the sum so far with the rest of the rows makes the whole sum.
use Rattle.std.proofs.Common.{◌≡◌, ℕ, List, drop}
use mathlib.Core.List.{foldl}
use lib.Ieee.{Float, binary64, add}
use Rattle.roster.specs.Rows.{value_at}
use Rattle.matchmaker.specs.Steps.{absorb}
use Rattle.matchmaker.proofs.add_rows.Given as goal

-- one row's part in the sum
abbrev step : List Float → Float → ℕ → Float
step column sum row = absorb (add binary64) sum (value_at column row)

abbrev pub invariant-loop-row : goal.invariant-loop-row
invariant-loop-row l = foldl (step l.column) l.so_far (drop l.row-index l.rows) ≡ foldl (step l.column) l.sum l.rows
