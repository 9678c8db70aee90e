-- The player joins A, or B.
use Rattle.choice.specs.Sums.{sums_with}
use Rattle.choice.proofs.sums_with.Goals as goal

pub returns-then-first : goal.returns-then-first
unfolding sums_with
returns-then-first c = rw (c.if-first.true, c.plus.ensures, c.plus-all.ensures)

pub returns : goal.returns
unfolding sums_with
returns c = rw (c.if-first.false, c.plus-2.ensures, c.plus-all.ensures)
