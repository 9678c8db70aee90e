-- The sheets and the clock, in this order.
use mathlib.Core.Path.{sym, ◌∙◌}
use Rattle.hall.proofs.rounds.check_sheets_and_clock.Goals as goal

pub returns-then-are_short : goal.returns-then-are_short
returns-then-are_short c = rw (sym c.are_short.ensures ∙ c.if-are_short.true)

pub returns-then-is_over : goal.returns-then-is_over
returns-then-is_over c = rw (sym c.are_short.ensures ∙ c.if-are_short.false, sym c.is_over.ensures ∙ c.if-is_over.true)

pub returns : goal.returns
returns c = rw (sym c.are_short.ensures ∙ c.if-are_short.false, sym c.is_over.ensures ∙ c.if-is_over.false)
