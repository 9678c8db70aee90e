-- The tests are those of the definition.
use Rattle.selection.specs.Selection.{max_of}
use Rattle.selection.proofs.lexicographic.max.Goals as goal

pub returns-then-x-y : goal.returns-then-x-y
unfolding max_of
returns-then-x-y c = rw c.if-x-y.true

pub returns-then-x : goal.returns-then-x
unfolding max_of
returns-then-x c = rw (c.if-x-y.false, c.if-x.true)

pub returns : goal.returns
unfolding max_of
returns c = rw (c.if-x-y.false, c.if-x.false)
