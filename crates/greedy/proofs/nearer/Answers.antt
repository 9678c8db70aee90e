-- The two answers are the definition's.
use Rattle.greedy.specs.Steps.{near_of}
use Rattle.greedy.proofs.Laws.{near_kept, near_left}
use Rattle.greedy.proofs.nearer.Goals as goal

pub returns-then-distance-best : goal.returns-then-distance-best
returns-then-distance-best c =
    let s = c.args in
    near_kept s.reference s.free.now s.i (near_of s.best) c.magnitude-distance.ensures c.if-distance-best.true

pub returns : goal.returns
returns c =
    let s = c.args in
    near_left s.reference s.free.now s.i (near_of s.best) c.magnitude-distance.ensures c.if-distance-best.false
