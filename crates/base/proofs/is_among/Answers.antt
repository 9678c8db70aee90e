-- A search: the rest gives what the whole gives.
use borrow.Author.Tests.{eq-eqb, ne_eqb}
use Rattle.base.proofs.Loops.{seek_hit, seek_on, seek_end}
use Rattle.base.proofs.is_among.Goals as goal

pub returns-then-other-number : goal.returns-then-other-number
returns-then-other-number c =
    seek_hit _ _ _ c.args.numbers.now c.loop-other.other-index 0 c.loop-other.invariant c.loop-other-test.true (eq-eqb _ _ c.if-other-number.true)

pub loop-other-preserved : goal.loop-other-preserved
loop-other-preserved c =
    seek_on _ _ _ c.args.numbers.now c.loop-other.other-index 0 c.loop-other.invariant c.loop-other-test.true (ne_eqb _ _ c.if-other-number.false)

pub returns : goal.returns
returns c =
    seek_end _ _ _ c.args.numbers.now c.loop-other.other-index c.loop-other.invariant c.loop-other-test.false
