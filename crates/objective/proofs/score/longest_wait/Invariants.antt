-- `score::longest_wait` meets its contract: the longest so far with the rest of the players makes the longest of all.
use Prim.Native.Nat.{ℕ}
use mathlib.Core.Path.{◌≡◌}
use mathlib.Core.List.{List, foldl}
use lib.ListN.{drop}
use lib.Ieee.{Float}
use Rattle.base.specs.Floats.{zero}
use Rattle.matchmaker.specs.Steps.{absorb}
use Rattle.objective.specs.Score.{longer}
use Rattle.objective.specs.Steps.{column_wait}
use Rattle.objective.proofs.score.longest_wait.Given as goal

-- one player's part in the longest wait
abbrev step : List ℕ → List ℕ → ℕ → Float → ℕ → Float
step waiting joined clock longest player = absorb longer longest (column_wait clock waiting joined player)

abbrev pub invariant-loop-player : goal.invariant-loop-player
invariant-loop-player l = foldl (step l.waiting l.joined l.clock) l.longest (drop l.player-index l.players) ≡ foldl (step l.waiting l.joined l.clock) zero l.players
