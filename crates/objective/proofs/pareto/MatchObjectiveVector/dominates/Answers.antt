-- `MatchObjectiveVector::dominates` meets its contract: nowhere worse, and the rest is for the other side to say.
use mathlib.Core.Path.{sym, ap, ◌∙◌}
use mathlib.Core.Bool.{not}
use Rattle.objective.proofs.Laws.{not_worse, better_where}
use Rattle.objective.proofs.pareto.MatchObjectiveVector.dominates.Goals as goal

pub returns-then-not-any_below : goal.returns-then-not-any_below
returns-then-not-any_below c =
    let a = c.args in
    c.any_below-then-not-any_below.ensures ∙ better_where a.self a.other (sym c.any_below.ensures ∙ c.if-not-any_below.true)

pub returns-else-not-any_below : goal.returns-else-not-any_below
returns-else-not-any_below c =
    let a = c.args in
    ap not c.if-not-any_below.false ∙ not_worse a.self a.other (sym c.any_below.ensures ∙ c.if-not-any_below.false)
