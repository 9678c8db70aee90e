-- `near_best` meets its contract, by those of the two it calls.
use mathlib.Core.Path.{ap, ◌∙◌}
use lib.Ieee.{Float, le, binary64, sub}
use Rattle.base.specs.Lists.{keep}
use Rattle.roster.specs.Roster.{of_ratings}
use Rattle.selection.specs.Selection.{thousandth, value_of}
use Rattle.selection.specs.Steps.{shortlist_of}
use Rattle.selection.proofs.lexicographic.near_best.Goals as goal

pub returns : goal.returns
returns c =
    let a = c.args in
    let r = of_ratings a.ids.now a.ratings.now in
    let o = c.args.objective in
    (c.at_least.ensures.0 ∙ ap (λ (b : Float). keep (λ k. le (sub binary64 b thousandth) (value_of r o k)) (shortlist_of a.shortlist)) c.highest-bound.ensures, c.at_least.ensures.1)
