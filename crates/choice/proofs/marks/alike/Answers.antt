-- The set of the places from i on.
use native.Mathlib.Omega.{arith}
use lib.Seq.{drop-length}
use Rattle.choice.specs.Reading.{marks}
use lib.Dec.{eqb}
use Rattle.choice.proofs.Marking.{marks_fit, marks_on}
use Rattle.choice.proofs.marks.alike.Goals as goal

pub loop-i-init : goal.loop-i-init
unfolding marks
loop-i-init c = rw drop-length

pub marked_next-out-requires : goal.marked_next-out-requires
marked_next-out-requires c =
    let l = c.loop-i in
    marks_fit (λ k. eqb k c.args.key) c.args.keys.now l.i (omega arith) l.invariant c.requires (omega arith)

pub loop-i-preserved : goal.loop-i-preserved
loop-i-preserved c =
    let l = c.loop-i in
    marks_on (λ k. eqb k c.args.key) c.args.keys.now l.i (omega arith) l.invariant 0 (omega arith) c.marked_next-out.ensures
