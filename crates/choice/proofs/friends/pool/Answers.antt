-- The sets of the guest's places from i on.
use native.Mathlib.Omega.{arith}
use lib.Seq.{drop-length}
use Rattle.choice.specs.Reading.{pooled}
use Rattle.choice.proofs.Marking.{pooled_on}
use Rattle.choice.proofs.friends.pool.Goals as goal

pub loop-i-init : goal.loop-i-init
unfolding pooled
loop-i-init c = rw drop-length

pub loop-i-preserved : goal.loop-i-preserved
loop-i-preserved c =
    let l = c.loop-i in
    pooled_on c.args.guest c.args.queued.now c.args.sets.now l.i c.requires (omega arith) l.invariant (omega arith) c.with_if-out.ensures
