-- The best so far and the rest of the scores make the best of all.
use mathlib.Core.Path.{refl}
use native.Mathlib.Omega.{arith}
use Rattle.selection.proofs.Laws.{best_stays, best_turns, best_end}
use Rattle.selection.proofs.greedy.last_best.Goals.{then-not-lower, else-not-lower}
use Rattle.selection.proofs.greedy.last_best.Goals as goal

pub loop-i-init : goal.loop-i-init
loop-i-init c = (omega arith, refl)

pub loop-i-preserved : goal.loop-i-preserved
loop-i-preserved c =
    let s = c.args in
    let l = c.loop-i in
    elim c.if-not-lower.branch [
      | then-not-lower w ↦ rw w.best-is (omega arith, best_turns s.scores s.n l.i (omega arith) l.best l.invariant.1 (omega arith) w.if-not-lower.true)
      | else-not-lower w ↦ rw w.best-is (l.invariant.0, best_stays s.scores s.n l.i (omega arith) l.best l.invariant.1 (omega arith) w.if-not-lower.false)
    ]

pub returns : goal.returns
returns c =
    let s = c.args in
    let l = c.loop-i in
    best_end s.scores s.n l.i l.best (omega arith) l.invariant.1 (omega arith) (omega arith) (omega arith)
