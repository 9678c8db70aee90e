-- Each number by its test.
use borrow.Author.Tests.{ne_eqb}
use Rattle.hall.specs.Hall.{answer_in}
use Rattle.hall.proofs.notes.booking_heard.Goals as goal

pub returns-then-answer-eq0 : goal.returns-then-answer-eq0
unfolding answer_in
returns-then-answer-eq0 c = rw c.if-answer-eq0.true

pub returns-then-answer-eq4 : goal.returns-then-answer-eq4
unfolding answer_in
returns-then-answer-eq4 c = rw c.if-answer-eq4.true

pub returns-then-answer-eq9 : goal.returns-then-answer-eq9
unfolding answer_in
returns-then-answer-eq9 c = rw c.if-answer-eq9.true

pub returns-then-answer-eq10 : goal.returns-then-answer-eq10
unfolding answer_in
returns-then-answer-eq10 c = rw c.if-answer-eq10.true

pub returns-then-answer-eq13 : goal.returns-then-answer-eq13
unfolding answer_in
returns-then-answer-eq13 c = rw c.if-answer-eq13.true

pub returns : goal.returns
unfolding answer_in
returns c =
    rw (
      ne_eqb _ _ c.if-answer-eq0.false,
      ne_eqb _ _ c.if-answer-eq4.false,
      ne_eqb _ _ c.if-answer-eq9.false,
      ne_eqb _ _ c.if-answer-eq10.false,
      ne_eqb _ _ c.if-answer-eq13.false,
    )
