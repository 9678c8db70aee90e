-- The two answers are the definition's.
use Rattle.greedy.specs.Steps.{nearer_of}
use Rattle.greedy.proofs.nearer_place.Goals as goal

pub returns-then-second-first : goal.returns-then-second-first
unfolding nearer_of
returns-then-second-first c = simp c.if-second-first.true

pub returns : goal.returns
unfolding nearer_of
returns c = simp c.if-second-first.false
