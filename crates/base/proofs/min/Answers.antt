-- `base::min` meets its contract: each return is what the tests on the way pick.
use Rattle.base.specs.Floats.{min_of}
use Rattle.base.proofs.min.Goals as goal

pub returns-then-x-y : goal.returns-then-x-y
unfolding min_of
returns-then-x-y c = simp c.if-x-y.true

pub returns-then-y : goal.returns-then-y
unfolding min_of
returns-then-y c = simp (c.if-x-y.false, c.if-y.true)

pub returns : goal.returns
unfolding min_of
returns c = simp (c.if-x-y.false, c.if-y.false)
