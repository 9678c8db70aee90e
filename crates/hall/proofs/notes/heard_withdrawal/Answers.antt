-- A withdrawal of the same guest, or another call.
use mathlib.Core.Path.{sym, ap, ◌∙◌}
use borrow.Author.Tests.{eq-eqb, ne_eqb}
use Rattle.hall.specs.Hall.{answer_in}
use Rattle.hall.specs.Steps.{heard_or}
use Rattle.hall.proofs.KeyLaws.{heard_clash, heard_known}
use Rattle.hall.proofs.Sameness.{same_withdrawal, same_no_withdrawal}
use Rattle.hall.proofs.notes.heard_withdrawal.Goals as goal

pub returns-then-note-ne1 : goal.returns-then-note-ne1
returns-then-note-ne1 c = heard_clash c.args.note _ (same_no_withdrawal _ c.args.player (ne_eqb _ _ c.if-note-ne1.true))

pub returns-then-note-player : goal.returns-then-note-player
returns-then-note-player c = heard_clash c.args.note _ (same_withdrawal _ c.args.player c.if-note-ne1.false ∙ ne_eqb _ _ c.if-note-player.true)

pub returns : goal.returns
returns c =
    heard_known c.args.note _ (same_withdrawal _ c.args.player c.if-note-ne1.false ∙ eq-eqb _ _ c.if-note-player.false)
    (c.withdrawal_heard.ensures ∙ ap heard_or (sym (ap (λ k. answer_in k c.args.note.answer) c.if-note-ne1.false)))
