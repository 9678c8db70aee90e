-- Ascending ids are all different, and of others the table tells, or each is held against all others.
use mathlib.Core.Path.{sym}
use Rattle.roster.proofs.all_different.Goals as goal

pub returns-then-differ_by_order : goal.returns-then-differ_by_order
returns-then-differ_by_order c = sym (c.differ_by_order.ensures c.if-differ_by_order.true)
