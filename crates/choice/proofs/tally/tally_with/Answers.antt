-- The player joins A, or B.
use Rattle.choice.specs.Tallies.{tally_with}
use Rattle.choice.proofs.tally.tally_with.Goals as goal

pub returns-then-first : goal.returns-then-first
unfolding tally_with
returns-then-first c = rw c.if-first.true

pub returns : goal.returns
unfolding tally_with
returns c = rw c.if-first.false
