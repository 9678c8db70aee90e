-- By what was noted: all of a booking, only its guest, or no booking.
use mathlib.Core.Path.{sym, ◌∙◌}
use borrow.Author.Tests.{ne_eqb}
use Rattle.hall.specs.Hall.{content_in}
use Rattle.hall.proofs.Sameness.{same_whole, same_older, same_no_booking}
use Rattle.hall.proofs.notes.stands_for.Goals as goal

pub returns-then-note-eq0 : goal.returns-then-note-eq0
returns-then-note-eq0 c = c.is_same.ensures ∙ sym (same_whole (content_in c.args.note) c.args.booking c.if-note-eq0.true)

pub returns-then-note-eq2 : goal.returns-then-note-eq2
returns-then-note-eq2 c = sym (same_older (content_in c.args.note) c.args.booking c.if-note-eq2.true)

pub returns : goal.returns
returns c = sym (same_no_booking (content_in c.args.note) c.args.booking (ne_eqb _ _ c.if-note-eq0.false) (ne_eqb _ _ c.if-note-eq2.false))
