-- Somebody is not fine, a wanted one is not present, or the counts decide.
use borrow.Author.Tests.{not-true, not-false, ne_eqb, eq-eqb}
use lib.Bits.{bit_and}
use Rattle.choice.specs.Tallies.{fits}
use Rattle.choice.proofs.tally.passes.Goals as goal

pub returns-then-not-tally : goal.returns-then-not-tally
unfolding fits
returns-then-not-tally c = rw (not-true c.args.tally.fine c.if-not-tally.true)

pub returns-then-tally : goal.returns-then-tally
unfolding fits
returns-then-tally c =
    let t = c.args.tally in
    rw (not-false t.fine c.if-not-tally.false, ne_eqb (bit_and t.wanted t.present) t.wanted c.if-tally.true)

pub returns : goal.returns
unfolding fits
returns c =
    let t = c.args.tally in
    rw (not-false t.fine c.if-not-tally.false, eq-eqb (bit_and t.wanted t.present) t.wanted c.if-tally.false)
    c.are_within.ensures
