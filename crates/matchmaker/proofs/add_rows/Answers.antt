-- `matchmaker::add_rows` meets its contract: the sum so far with the rest of the rows makes the whole sum.
use Rattle.std.proofs.Common.{ℕ, List, sym, ap, ◌∙◌, arith}
use lib.Ieee.{Float, binary64, add}
use Rattle.base.proofs.Loops.{fold_on, fold_end}
use Rattle.roster.specs.Rows.{value_at}
use Rattle.matchmaker.specs.Steps.{absorb}
use Rattle.matchmaker.proofs.Laws.{fold_observations}
use Rattle.matchmaker.proofs.add_rows.Goals as goal

-- one row's part in the sum
abbrev step : List Float → Float → ℕ → Float
step column sum row = absorb (add binary64) sum (value_at column row)

pub loop-row-preserved : goal.loop-row-preserved
loop-row-preserved c =
    let a = c.args in
    let l = c.loop-row in
    let e = c.add_observed-so_far.ensures ∙ ap (absorb (add binary64) l.so_far) c.observed_at.ensures in
    fold_on (step a.column.now) 0 a.rows.now l.row-index (omega arith) e ∙ l.invariant

pub returns : goal.returns
returns c =
    let a = c.args in
    let l = c.loop-row in
    sym (fold_end (step a.column.now) 0 a.rows.now l.row-index l.so_far (omega arith))
    ∙ l.invariant
    ∙ fold_observations (add binary64) (value_at a.column.now) a.sum a.rows.now
