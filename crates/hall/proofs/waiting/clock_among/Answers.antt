-- By the test.
use mathlib.Core.Path.{sym, ◌∙◌}
use Rattle.hall.proofs.waiting.clock_among.Goals as goal

pub returns-then-has_time_over : goal.returns-then-has_time_over
returns-then-has_time_over c = rw (sym c.has_time_over.ensures ∙ c.if-has_time_over.true)

pub returns : goal.returns
returns c = rw (sym c.has_time_over.ensures ∙ c.if-has_time_over.false)
