-- The set of the places from i on.
use mathlib.Core.Path.{◌∙◌}
use mathlib.Core.Bool.{not}
use native.Mathlib.Omega.{arith}
use lib.Seq.{drop-length}
use Rattle.choice.specs.Reading.{marks}
use Rattle.constraint.specs.Constraints.{may_meet, pairs_of}
use Rattle.choice.proofs.Marking.{marks_fit, marks_on}
use Rattle.choice.proofs.marks.strangers.Goals as goal

pub loop-i-init : goal.loop-i-init
unfolding marks
loop-i-init c = rw drop-length

pub marked_next-out-requires : goal.marked_next-out-requires
marked_next-out-requires c =
    let l = c.loop-i in
    marks_fit (λ y. not (may_meet (pairs_of c.args.allowed) c.args.code y)) c.args.codes.now l.i (omega arith) l.invariant c.requires (omega arith)

pub loop-i-preserved : goal.loop-i-preserved
loop-i-preserved c =
    let l = c.loop-i in
    marks_on (λ y. not (may_meet (pairs_of c.args.allowed) c.args.code y)) c.args.codes.now l.i (omega arith) l.invariant 0 (omega arith) (c.marked_next-out.ensures ∙ rw c.may_meet-meet.ensures)
