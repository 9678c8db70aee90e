-- A row is written from another: it holds the game's bookings so far, and the rest gives what is missing.
use borrow.Author.Rules.{rules}
use native.Mathlib.Omega.{arith}
use mathlib.Core.Path.{◌≡◌, refl}
use borrow.Author.Tests.{eq-eqb, ne_eqb}
use lib.Dec.{eqb}
use lib.ListN.{length, take, length-set}
use lib.Seq.{length-take-le}
use Rattle.base.proofs.Arrays.{unmapped}
use Rattle.hall.proofs.WaitLaws.{keep_on, keep_skip, kept}
use Rattle.hall.proofs.waiting.of_game.Goals as goal
use Rattle.hall.proofs.waiting.of_game.Goals.{then-booking-game, else-booking-game}

pub loop-booking-init : goal.loop-booking-init
loop-booking-init c = (omega arith, search (unmapped, rules), refl)

pub loop-booking-preserved : goal.loop-booking-preserved
loop-booking-preserved c =
    let s = c.args in
    let l = c.loop-booking in
    let w : length s.bookings ≡ 64 = search (unmapped, rules) in
    let many = length-take-le c.at_most-k.result s.bookings (omega (arith, c.at_most-k.ensures)) in
    let row = take c.at_most-k.result s.bookings in
    elim c.if-booking-game.branch [
      | then-booking-game b ↦
          rw (b.own-is, b.found-is) (
            omega arith,
            simp length-set l.invariant.1,
            keep_on (λ b. eqb b.game s.game) row l.own l.found l.booking-index _ l.invariant.2 c.loop-booking-test.true (omega (arith, many)) (eq-eqb _ _ b.if-booking-game.true),
          )
      | else-booking-game b ↦
          rw (b.own-is, b.found-is) (
            omega arith,
            l.invariant.1,
            keep_skip (λ b. eqb b.game s.game) row l.own l.found l.booking-index _ l.invariant.2 c.loop-booking-test.true (ne_eqb _ _ b.if-booking-game.false),
          )
    ]

pub returns : goal.returns
returns c =
    let s = c.args in
    let l = c.loop-booking in
    let w : length s.bookings ≡ 64 = search (unmapped, rules) in
    let many = length-take-le c.at_most-k.result s.bookings (omega (arith, c.at_most-k.ensures)) in
    kept s.bookings s.n _ w c.at_most-k.ensures (λ b. eqb b.game s.game) l.own l.found l.booking-index l.invariant.1 (omega arith) (omega (arith, many)) (omega (arith, many)) l.invariant.2
