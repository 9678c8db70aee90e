-- A size, or else the last game served.
use mathlib.Core.Path.{sym, ◌∙◌}
use Rattle.hall.proofs.GameLaws.{over_sizes, over_game, over_none}
use Rattle.hall.proofs.games.are_over.Goals as goal

pub returns-then-any_over : goal.returns-then-any_over
returns-then-any_over c = over_sizes _ c.args.served (sym c.any_over.ensures ∙ c.if-any_over.true)

pub returns-then-served-le7 : goal.returns-then-served-le7
returns-then-served-le7 c = over_game _ c.args.served (sym c.any_over.ensures ∙ c.if-any_over.false) c.if-served-le7.true

pub returns : goal.returns
returns c = over_none _ c.args.served (sym c.any_over.ensures ∙ c.if-any_over.false) c.if-served-le7.false
