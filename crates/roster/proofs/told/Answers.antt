-- Where the row is in both columns the answer stands in it, and elsewhere there is none.
use Rattle.std.proofs.Common.{◌∙◌, ap, sym, arith}
use Rattle.std.specs.Prelude.{Some}
use Rattle.roster.proofs.Laws.{observe_row, observe_no_row, observe_short}
use Rattle.roster.proofs.told.Goals as goal
use Rattle.roster.proofs.told.Goals.{then-ids-row-via-then-ids-row, then-ids-row-via-else-ids-row+then-column-row}

pub returns-then-ids-row : goal.returns-then-ids-row
returns-then-ids-row g c =
    let a = c.args in
    elim c.then-ids-row.branch [
      | then-ids-row-via-then-ids-row w ↦ sym (observe_no_row a.player a.ids.now a.column.now (omega arith))
      | then-ids-row-via-else-ids-row+then-column-row w ↦ sym (observe_short a.player a.ids.now a.column.now (omega arith))
    ]

pub returns : goal.returns
returns g c =
    let a = c.args in
    let i = c.index-column-row in
    ap Some (rw (← c.row_of-row.ensures) i.is) ∙ sym (observe_row a.player a.ids.now a.column.now i.result (omega arith) (omega arith))
