-- The two answers are the definition's.
use Rattle.greedy.specs.Steps.{magnitude_of}
use Rattle.greedy.proofs.magnitude.Goals as goal

pub returns-then-x : goal.returns-then-x
unfolding magnitude_of
returns-then-x c = simp c.if-x.true

pub returns : goal.returns
unfolding magnitude_of
returns c = simp c.if-x.false
