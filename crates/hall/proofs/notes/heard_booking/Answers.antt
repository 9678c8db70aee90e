-- The answer noted where the key stands for the booking, else 7.
use mathlib.Core.Path.{sym, ap, ◌∙◌}
use Rattle.hall.specs.Steps.{heard_or}
use Rattle.hall.proofs.KeyLaws.{heard_clash, heard_known}
use Rattle.hall.proofs.Sameness.{booking_answers}
use Rattle.hall.proofs.notes.heard_booking.Goals as goal

pub returns-then-stands_for : goal.returns-then-stands_for
returns-then-stands_for c =
    let e = sym c.stands_for.ensures ∙ c.if-stands_for.true in
    heard_known c.args.note _ e (c.booking_heard.ensures ∙ ap heard_or (sym (booking_answers _ c.args.booking c.args.note.answer e)))

pub returns : goal.returns
returns c = heard_clash c.args.note _ (sym c.stands_for.ensures ∙ c.if-stands_for.false)
