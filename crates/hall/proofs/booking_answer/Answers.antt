-- By the tests, in their order.
use native.Mathlib.Omega.{arith}
use mathlib.Core.Path.{sym, ◌∙◌}
use borrow.Author.Tests.{lt-ltb, le-ltb}
use Rattle.hall.specs.Hall.{booking_answer}
use Rattle.hall.proofs.booking_answer.Goals as goal

pub returns-then-booking-gt7 : goal.returns-then-booking-gt7
unfolding booking_answer
returns-then-booking-gt7 c = rw (lt-ltb 7 c.args.booking.game (omega arith))

pub returns-then-is_over : goal.returns-then-is_over
unfolding booking_answer
returns-then-is_over c = rw (le-ltb 7 c.args.booking.game (omega arith), sym c.is_over.ensures ∙ c.if-is_over.true)

pub returns-then-waits : goal.returns-then-waits
unfolding booking_answer
returns-then-waits c = rw (le-ltb 7 c.args.booking.game (omega arith), sym c.is_over.ensures ∙ c.if-is_over.false, c.if-waits.true)

pub returns-then-waiting-lt64 : goal.returns-then-waiting-lt64
unfolding booking_answer
returns-then-waiting-lt64 c =
    rw (le-ltb 7 c.args.booking.game (omega arith), sym c.is_over.ensures ∙ c.if-is_over.false, c.if-waits.false, lt-ltb c.args.waiting 64 (omega arith))

pub returns : goal.returns
unfolding booking_answer
returns c =
    rw (le-ltb 7 c.args.booking.game (omega arith), sym c.is_over.ensures ∙ c.if-is_over.false, c.if-waits.false, le-ltb c.args.waiting 64 (omega arith))
