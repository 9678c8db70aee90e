-- A queue is filled: what is written are the entries of the first bookings.
use borrow.Author.Rules.{rules}
use native.Mathlib.Omega.{arith}
use mathlib.Core.Path.{◌≡◌, refl}
use lib.ListN.{length, take, length-set}
use lib.Seq.{length-take-le}
use Rattle.base.proofs.Arrays.{fill_on, unmapped}
use Rattle.hall.specs.Hall.{entry_of}
use Rattle.hall.proofs.WaitLaws.{queued}
use Rattle.hall.proofs.waiting.queue_of.Goals as goal

pub loop-i-init : goal.loop-i-init
loop-i-init c = (search (unmapped, rules), refl)

pub loop-i-preserved : goal.loop-i-preserved
loop-i-preserved c =
    let s = c.args in
    let l = c.loop-i in
    let w : length s.bookings ≡ 64 = search (unmapped, rules) in
    let many = length-take-le c.at_most-k.result s.bookings (omega (arith, c.at_most-k.ensures)) in
    (simp length-set l.invariant.0, fill_on entry_of (take c.at_most-k.result s.bookings) l.queue.entries l.i _ c.loop-i-test.true (omega (arith, many)) l.invariant.1 c.entry.ensures)

pub returns : goal.returns
returns c =
    let s = c.args in
    let l = c.loop-i in
    let w : length s.bookings ≡ 64 = search (unmapped, rules) in
    let many = length-take-le c.at_most-k.result s.bookings (omega (arith, c.at_most-k.ensures)) in
    queued s.bookings s.n _ w c.at_most-k.ensures l.queue.entries l.i l.invariant.0 (omega (arith, many)) l.invariant.1
