-- The verdict, in numbers.
use mathlib.Core.Path.{ap, ◌∙◌}
use Rattle.capi.specs.Rules.{verdict_numbers}
use Rattle.capi.proofs.rules.yilgashe_regions_satisfied.Goals as goal

pub returns : goal.returns
returns c = c.verdict_numbers.ensures ∙ ap verdict_numbers c.is_satisfied.ensures
