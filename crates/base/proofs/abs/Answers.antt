-- `base::abs` meets its contract, by what its tests tell.
use Rattle.base.proofs.Sign.{negative, at_zero, above_zero_lem}
use Rattle.base.proofs.abs.Goals as goal

pub returns-then-x : goal.returns-then-x
returns-then-x c = negative _ c.if-x.true

pub returns-then-x-2 : goal.returns-then-x-2
returns-then-x-2 c = at_zero _ c.well_formed.0.1 c.if-x-2.true

pub returns : goal.returns
returns c = above_zero_lem _ c.if-x.false c.if-x-2.false
