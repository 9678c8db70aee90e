-- Field by field, in the definition's order.
use native.Mathlib.Omega.{arith}
use borrow.Author.Tests.{eq-eqb, ne_eqb}
use Rattle.hall.proofs.notes.is_same.Goals as goal

pub returns-then-note-booking : goal.returns-then-note-booking
returns-then-note-booking c = rw (ne_eqb _ _ c.if-note-booking.true)

pub returns-then-note-booking-2 : goal.returns-then-note-booking-2
returns-then-note-booking-2 c = rw (eq-eqb _ _ c.if-note-booking.false, ne_eqb _ _ c.if-note-booking-2.true)

pub returns-then-note-booking-3 : goal.returns-then-note-booking-3
returns-then-note-booking-3 c = rw (eq-eqb _ _ c.if-note-booking.false, eq-eqb _ _ c.if-note-booking-2.false, ne_eqb _ _ c.if-note-booking-3.true)

pub returns-then-note-booking-4 : goal.returns-then-note-booking-4
returns-then-note-booking-4 c = rw (eq-eqb _ _ c.if-note-booking.false, eq-eqb _ _ c.if-note-booking-2.false, eq-eqb _ _ c.if-note-booking-3.false, ne_eqb _ _ c.if-note-booking-4.true)

pub returns-then-note-booking-5 : goal.returns-then-note-booking-5
returns-then-note-booking-5 c = rw (eq-eqb _ _ c.if-note-booking.false, eq-eqb _ _ c.if-note-booking-2.false, eq-eqb _ _ c.if-note-booking-3.false, eq-eqb _ _ c.if-note-booking-4.false, ne_eqb _ _ c.if-note-booking-5.true)

pub returns : goal.returns
returns c = rw (eq-eqb c.args.note.player c.args.booking.player (omega arith), eq-eqb c.args.note.game c.args.booking.game (omega arith), eq-eqb c.args.note.joined c.args.booking.joined (omega arith), eq-eqb c.args.note.rating_bits c.args.booking.rating_bits (omega arith), eq-eqb c.args.note.party c.args.booking.party (omega arith))
