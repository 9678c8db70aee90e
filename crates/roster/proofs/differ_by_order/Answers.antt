-- Ascending ids are all different.
use mathlib.Core.Path.{sym, ◌∙◌}
use Rattle.roster.proofs.Laws.{ascends_distinct}
use Rattle.roster.proofs.differ_by_order.Goals as goal

pub returns-then-rise_at_first : goal.returns-then-rise_at_first
returns-then-rise_at_first c = λ e. ascends_distinct _ (sym c.ascend.ensures ∙ e)
