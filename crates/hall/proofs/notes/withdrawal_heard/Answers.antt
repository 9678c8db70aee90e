-- Each number by its test.
use borrow.Author.Tests.{ne_eqb}
use Rattle.hall.specs.Hall.{answer_in}
use Rattle.hall.proofs.notes.withdrawal_heard.Goals as goal

pub returns-then-answer-eq0 : goal.returns-then-answer-eq0
unfolding answer_in
returns-then-answer-eq0 c = rw c.if-answer-eq0.true

pub returns-then-answer-eq11 : goal.returns-then-answer-eq11
unfolding answer_in
returns-then-answer-eq11 c = rw c.if-answer-eq11.true

pub returns : goal.returns
unfolding answer_in
returns c = rw (ne_eqb _ _ c.if-answer-eq0.false, ne_eqb _ _ c.if-answer-eq11.false)
