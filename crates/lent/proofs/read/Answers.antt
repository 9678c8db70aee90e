-- What the two calls give, one in the other.
use mathlib.Core.Path.{◌∙◌, ap}
use Rattle.base.specs.Refusals.{outcome_of}
use Rattle.lent.specs.Reading.{followed}
use Rattle.lent.proofs.read.Goals as goal

pub returns : goal.returns
returns c = c.followed.ensures ∙ ap (followed (outcome_of c.args.wait)) c.entry_wait.ensures
