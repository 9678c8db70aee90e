-- `Team::add_to` meets its contract: the sum so far with the rest of the players makes the whole sum.
use Rattle.std.proofs.Common.{ℕ, List, take, sym, ap, ◌∙◌, arith}
use mathlib.Core.List.{foldl}
use lib.Ieee.{Float, binary64, add}
use Rattle.base.proofs.Arrays.{all_held}
use Rattle.base.proofs.Loops.{fold_on, fold_end}
use Rattle.roster.specs.Roster.{observe}
use Rattle.matchmaker.specs.Steps.{absorb}
use Rattle.matchmaker.proofs.Laws.{fold_observations}
use Rattle.matchmaker.proofs.Team.add_to.Goals as goal

-- one player's part in the sum
abbrev step : List ℕ → List Float → Float → ℕ → Float
step ids column sum player = absorb (add binary64) sum (observe ids column player)

pub loop-player-preserved : goal.loop-player-preserved
loop-player-preserved c =
    let a = c.args in
    let l = c.loop-player in
    fold_on (step a.ids.now a.column.now) 0 _ l.player-index (omega arith) c.add_player-total.ensures ∙ l.invariant

pub returns : goal.returns
returns c =
    let a = c.args in
    let t = a.self in
    let l = c.loop-player in
    let f = step a.ids.now a.column.now in
    sym (fold_end f 0 _ l.player-index l.total (omega arith))
    ∙ l.invariant
    ∙ ap (foldl f a.sum) (all_held t.len t.players c.held.ensures)
    ∙ fold_observations (add binary64) (observe a.ids.now a.column.now) a.sum (take t.len t.players)
