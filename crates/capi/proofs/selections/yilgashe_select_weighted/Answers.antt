-- The places, in numbers.
use mathlib.Core.Path.{ap}
use Rattle.selection.specs.Selection.{SelectedState}
use Rattle.capi.proofs.Choices.{by_rule}
use Rattle.capi.proofs.selections.yilgashe_select_weighted.Goals as goal

pub returns : goal.returns
returns c = by_rule _ (ap (λ (s : SelectedState). s.places) c.select.ensures) c.selected_numbers.ensures
