-- `score::longer_of` meets its contract: the test is the definition.
use Rattle.objective.specs.Score.{longer}
use Rattle.objective.proofs.score.longer_of.Goals as goal

pub returns-then-x-y : goal.returns-then-x-y
unfolding longer
returns-then-x-y c = rw c.if-x-y.true

pub returns-else-x-y : goal.returns-else-x-y
unfolding longer
returns-else-x-y c = rw c.if-x-y.false
