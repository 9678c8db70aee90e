-- By its test.
use mathlib.Core.Path.{sym, ap}
use borrow.Author.Tests.{ne_eqb}
use Rattle.base.specs.Numbers.{value_or}
use Rattle.base.proofs.Numbers.{number_accepts, number_refuses}
use Rattle.hall.specs.Games.{no_game}
use Rattle.hall.proofs.games.served.Goals as goal

pub returns-then-refusal-eq0 : goal.returns-then-refusal-eq0
returns-then-refusal-eq0 c = let a = c.args in sym (ap (value_or no_game) (number_accepts a.refusal a.game c.if-refusal-eq0.true))

pub returns : goal.returns
returns c = let a = c.args in sym (ap (value_or no_game) (number_refuses a.refusal a.game (ne_eqb a.refusal 0 c.if-refusal-eq0.false)))
