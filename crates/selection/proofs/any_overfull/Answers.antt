-- `any` over the candidates.
use mathlib.Core.Path.{◌∙◌}
use Rattle.std.proofs.Common.{rules}
use Rattle.std.proofs.lemmas.Iterator.{YieldsList-from_slice}
use borrow.Author.Tests.{tests}
use Rattle.base.proofs.Chains.{any_ran}
use Rattle.matchmaker.specs.Quality.{match_of, overfull}
use Rattle.selection.proofs.Laws.{any_map}
use Rattle.selection.proofs.any_overfull.Goals as goal

pub returns : goal.returns
returns c =
    let xs = c.args.candidates.now in
    any_ran (λ x. overfull (match_of x)) _ c.any.ensures.ran (YieldsList-from_slice xs cc) (λ x b q k. search (rules, tests)) ∙ any_map match_of overfull xs
