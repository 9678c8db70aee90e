-- `score::longest_wait` meets its contract: the longest so far with the rest of the players makes the longest of all.
use Prim.Native.Nat.{ℕ}
use mathlib.Core.Path.{sym, ◌∙◌}
use mathlib.Core.List.{List}
use native.Mathlib.Omega.{arith}
use lib.Ieee.{Float}
use Rattle.base.specs.Floats.{zero}
use Rattle.base.proofs.Loops.{fold_on, fold_end}
use Rattle.matchmaker.specs.Steps.{absorb}
use Rattle.matchmaker.proofs.Laws.{fold_observations}
use Rattle.objective.specs.Score.{longer}
use Rattle.objective.specs.Steps.{column_wait}
use Rattle.objective.proofs.score.longest_wait.Goals as goal

-- one player's part in the longest wait
abbrev step : List ℕ → List ℕ → ℕ → Float → ℕ → Float
step waiting joined clock longest player = absorb longer longest (column_wait clock waiting joined player)

pub loop-player-preserved : goal.loop-player-preserved
loop-player-preserved c =
    let a = c.args in
    let l = c.loop-player in
    fold_on (step a.waiting.now a.joined.now a.clock) 0 a.players.now l.player-index (omega arith) c.add_wait-longest.ensures ∙ l.invariant

pub returns : goal.returns
returns c =
    let a = c.args in
    let l = c.loop-player in
    sym (fold_end (step a.waiting.now a.joined.now a.clock) 0 a.players.now l.player-index l.longest (omega arith))
    ∙ l.invariant
    ∙ fold_observations longer (column_wait a.clock a.waiting.now a.joined.now) zero a.players.now
