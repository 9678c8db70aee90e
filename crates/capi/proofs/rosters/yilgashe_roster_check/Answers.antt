-- The number of the check's answer.
use mathlib.Core.Path.{ap, ◌∙◌}
use Rattle.base.specs.Numbers.{refusal_of}
use Rattle.capi.proofs.rosters.yilgashe_roster_check.Goals as goal

pub returns : goal.returns
returns c = c.refusal_number.ensures ∙ ap refusal_of c.check_roster.ensures
