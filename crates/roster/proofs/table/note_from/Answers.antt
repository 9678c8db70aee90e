-- The rows gone by are in the table and differ.
use mathlib.Core.Path.{◌≡◌}
use native.Mathlib.Omega.{arith}
use lib.ListN.{length, get_or}
use Rattle.base.proofs.Cases.{never}
use Rattle.roster.proofs.Buckets.{walk_noted, walk_finds, differ_on, differ_not, differ_no_more, differ_all}
use Rattle.roster.proofs.table.note_from.Goals as goal

pub last_of-requires : goal.last_of-requires
last_of-requires c =
    let l = c.loop-i in
    let a = c.args in
    let m = c.note-earlier.ensures in
    let told = walk_noted a.ids.now (get_or a.ids.now l.i 0) l.i m.noted_2 (omega arith) m.value.0 (omega arith) (omega arith) in
    record { from_in_bounds = told.0; before_len = told.1.0; from_value = told.1.1 }

pub returns-then-last_of-gt0 : goal.returns-then-last_of-gt0
returns-then-last_of-gt0 c =
    let l = c.loop-i in
    let a = c.args in
    let m = c.note-earlier.ensures in
    let k = walk_finds a.ids.now (get_or a.ids.now l.i 0) l.i m.value.0 c.last_of.ensures in
    record { value = differ_no_more a.ids.now (length a.ids.now) (differ_not a.ids.now l.i (length a.ids.now) (omega arith) (omega arith) (omega arith)); noted_2 = λ e. never cc }

pub loop-i-preserved : goal.loop-i-preserved
loop-i-preserved c =
    let l = c.loop-i in
    let a = c.args in
    let m = c.note-earlier.ensures in
    let k = walk_finds a.ids.now (get_or a.ids.now l.i 0) l.i m.value.0 c.last_of.ensures in
    (differ_on a.ids.now l.i (omega arith) l.invariant.0 (omega arith), m.noted_2)

pub returns : goal.returns
returns c =
    let l = c.loop-i in
    let a = c.args in
    let e : l.i ≡ length a.ids.now = omega arith in
    record { value = differ_all a.ids.now l.i (omega arith) l.invariant.0; noted_2 = λ t. rw e at l.invariant.1 }
