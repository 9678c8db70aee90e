-- Party 0 has no places.
use mathlib.Core.Path.{sym, ◌∙◌}
use mathlib.Core.Bool.{false}
use borrow.Author.Tests.{eq-eqb, ne_eqb}
use Rattle.choice.proofs.MarkLaws.{marks_never, marks_alike}
use Rattle.choice.proofs.marks.partners.Goals as goal

pub returns-then-party-eq0 : goal.returns-then-party-eq0
returns-then-party-eq0 c = sym (marks_alike _ (λ x. false) (λ x. rw (eq-eqb _ 0 c.if-party-eq0.true)) _ ∙ marks_never _)

pub returns : goal.returns
returns c = rw (ne_eqb _ 0 c.if-party-eq0.false) c.alike.ensures
