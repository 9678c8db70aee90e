-- What beam search says, in numbers, and its sheets.
use mathlib.Core.Path.{ap, ◌∙◌}
use Rattle.seating.specs.Seating.{HandedOut}
use Rattle.capi.specs.Searches.{formed_numbers}
use Rattle.capi.proofs.searches.yilgashe_search_beam.Goals as goal

pub returns : goal.returns
returns c =
    let e = c.search.ensures in
    record {
      answer = c.in_numbers.ensures ∙ ap (λ (h : HandedOut). formed_numbers h.answer) e;
      left = ap (λ (h : HandedOut). h.sheets) e;
    }
