-- A row is written from another: it holds who stays so far, and the rest gives what is missing.
use borrow.Author.Rules.{rules}
use native.Mathlib.Omega.{arith}
use mathlib.Core.Path.{◌≡◌, refl, sym, ap, ◌∙◌}
use mathlib.Core.Bool.{not}
use Rattle.base.specs.Lists.{member}
use lib.ListN.{length, take, length-set}
use lib.Seq.{length-take-le}
use Rattle.base.proofs.Arrays.{unmapped}
use Rattle.hall.proofs.WaitLaws.{keep_on, keep_skip, kept}
use Rattle.hall.proofs.waiting.without_seated.Goals as goal
use Rattle.hall.proofs.waiting.without_seated.Goals.{then-not-is_seated, else-not-is_seated}

pub loop-booking-init : goal.loop-booking-init
loop-booking-init c = (omega arith, search (unmapped, rules), refl)

pub loop-booking-preserved : goal.loop-booking-preserved
loop-booking-preserved c =
    let s = c.args in
    let l = c.loop-booking in
    let w : length s.bookings ≡ 64 = search (unmapped, rules) in
    let many = length-take-le c.at_most-k.result s.bookings (omega (arith, c.at_most-k.ensures)) in
    let row = take c.at_most-k.result s.bookings in
    elim c.if-not-is_seated.branch [
      | then-not-is_seated b ↦
          rw (b.stay-is, b.m-is) (
            omega arith,
            simp length-set l.invariant.1,
            keep_on (λ b. not (member b.player (take s.seats s.players.now))) row l.stay l.m l.booking-index _ l.invariant.2 c.loop-booking-test.true (omega (arith, many)) (ap not (sym c.is_seated.ensures ∙ b.if-not-is_seated.true)),
          )
      | else-not-is_seated b ↦
          rw (b.stay-is, b.m-is) (
            omega arith,
            l.invariant.1,
            keep_skip (λ b. not (member b.player (take s.seats s.players.now))) row l.stay l.m l.booking-index _ l.invariant.2 c.loop-booking-test.true (ap not (sym c.is_seated.ensures ∙ b.if-not-is_seated.false)),
          )
    ]

pub returns : goal.returns
returns c =
    let s = c.args in
    let l = c.loop-booking in
    let w : length s.bookings ≡ 64 = search (unmapped, rules) in
    let many = length-take-le c.at_most-k.result s.bookings (omega (arith, c.at_most-k.ensures)) in
    kept s.bookings s.n _ w c.at_most-k.ensures (λ b. not (member b.player (take s.seats s.players.now))) l.stay l.m l.booking-index l.invariant.1 (omega arith) (omega (arith, many)) (omega (arith, many)) l.invariant.2
