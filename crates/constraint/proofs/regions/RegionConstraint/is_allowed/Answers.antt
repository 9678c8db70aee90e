-- `RegionConstraint::is_allowed` meets its contract: `any` over the pairs that are held.
use mathlib.Core.Path.{ap, ◌∙◌}
use lib.ListN.{take}
use Rattle.std.proofs.Common.{rules}
use Rattle.std.proofs.lemmas.Iterator.{YieldsList-from_slice}
use borrow.Author.Tests.{tests}
use Rattle.base.specs.Lists.{any}
use Rattle.base.proofs.Arrays.{all_held}
use Rattle.base.proofs.Chains.{any_ran}
use Rattle.constraint.specs.Constraints.{allows}
use Rattle.constraint.proofs.regions.RegionConstraint.is_allowed.Goals as goal

pub returns : goal.returns
returns c =
    let t = c.args.self in
    let p = allows c.args.x c.args.y in
    any_ran p _ c.any.ensures.ran (YieldsList-from_slice (take c.held.result t.pairs) cc) (λ x b q k. search (rules, tests))
    ∙ ap (any p) (all_held t.count t.pairs c.held.ensures)
