-- `Team::add_to` meets its contract: the sum so far with the rest of the players makes the whole sum.
use Rattle.std.proofs.Common.{◌≡◌, ℕ, List, drop}
use mathlib.Core.List.{foldl}
use lib.Ieee.{Float, binary64, add}
use Rattle.roster.specs.Roster.{observe}
use Rattle.matchmaker.specs.Steps.{absorb}
use Rattle.matchmaker.proofs.Team.add_to.Given as goal

-- one player's part in the sum
abbrev step : List ℕ → List Float → Float → ℕ → Float
step ids column sum player = absorb (add binary64) sum (observe ids column player)

abbrev pub invariant-loop-player : goal.invariant-loop-player
invariant-loop-player l = foldl (step l.ids l.column) l.total (drop l.player-index l.player-items) ≡ foldl (step l.ids l.column) l.sum l.player-items
