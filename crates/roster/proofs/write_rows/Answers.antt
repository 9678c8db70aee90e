-- A copy from the front: so many players' rows, and the sheet beyond.
use Prim.Native.Nat.{ℕ}
use mathlib.Core.Path.{◌∙◌}
use native.Mathlib.Omega.{arith}
use Rattle.base.proofs.Sheets.{written_on, written_end}
use Rattle.roster.specs.Roster.{row_of}
use Rattle.roster.proofs.write_rows.Goals as goal

pub loop-i-preserved : goal.loop-i-preserved
loop-i-preserved c =
    let a = c.args in
    let l = c.loop-i in
    rw l.invariant (written_on (λ (p : ℕ). row_of p a.ids.now) a.players.now a.rows.now l.i 0 (omega arith) (omega arith) c.row_by_guess.ensures)

pub returns : goal.returns
returns c =
    let a = c.args in
    let l = c.loop-i in
    l.invariant ∙ written_end (λ (p : ℕ). row_of p a.ids.now) a.players.now a.rows.now l.i (omega arith)
