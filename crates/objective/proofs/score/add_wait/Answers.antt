-- `score::add_wait` meets its contract: where the player waits the longer counts, and elsewhere the longest is left.
use native.Mathlib.Omega.{arith}
use Rattle.roster.proofs.Laws.{observe_row, observe_no_row, observe_short}
use Rattle.objective.proofs.score.add_wait.Goals as goal

pub returns-then-waiting-place : goal.returns-then-waiting-place
returns-then-waiting-place c =
    let a = c.args in
    rw (observe_no_row a.player a.waiting.now a.joined.now (omega arith))

pub returns-then-joined-place : goal.returns-then-joined-place
returns-then-joined-place c =
    let a = c.args in
    rw (observe_short a.player a.waiting.now a.joined.now (omega arith))

pub returns : goal.returns
returns c =
    let a = c.args in
    let found = observe_row a.player a.waiting.now a.joined.now 0 (omega arith) (omega arith) in
    rw (found, c.longer_of.ensures, c.in_seconds.ensures, c.elapsed-nanos.ensures, c.row_of-place.ensures)
