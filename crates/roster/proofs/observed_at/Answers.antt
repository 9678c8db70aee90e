-- Where the column goes so far the answer stands in the row, and elsewhere there is none.
use mathlib.Core.Path.{sym}
use native.Mathlib.Omega.{arith}
use lib.Ieee.{nan}
use Rattle.roster.proofs.Laws.{value_row, value_none}
use Rattle.roster.proofs.observed_at.Goals as goal

pub returns-then-row-column : goal.returns-then-row-column
returns-then-row-column c =
    let a = c.args in
    sym (value_row a.column.now a.row nan (omega arith))

pub returns : goal.returns
returns c =
    let a = c.args in
    sym (value_none a.column.now a.row (omega arith))
