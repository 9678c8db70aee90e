-- `RegionConstraint::check` meets its contract: `all` over the pairs that are held.
use mathlib.Core.Path.{sym, ap, ◌∙◌}
use lib.ListN.{take}
use Rattle.std.proofs.Common.{rules}
use Rattle.std.proofs.lemmas.Iterator.{YieldsList-from_slice}
use borrow.Author.Tests.{tests}
use Rattle.base.specs.Lists.{every}
use Rattle.base.proofs.Arrays.{all_held}
use Rattle.base.proofs.Chains.{every_ran}
use Rattle.constraint.specs.Refusing.{is_pair}
use Rattle.constraint.proofs.regions.RegionConstraint.check.Goals as goal

pub returns-then-all : goal.returns-then-all
returns-then-all c =
    let t = c.args.self in
    rw (sym (every_ran is_pair _ c.all.ensures.ran (YieldsList-from_slice (take c.held.result t.pairs) cc) (λ x b q k. search (rules, tests))
    ∙ ap (every is_pair) (all_held t.count t.pairs c.held.ensures)) ∙ c.if-all.true)

pub returns-else-all : goal.returns-else-all
returns-else-all c =
    let t = c.args.self in
    rw (sym (every_ran is_pair _ c.all.ensures.ran (YieldsList-from_slice (take c.held.result t.pairs) cc) (λ x b q k. search (rules, tests))
    ∙ ap (every is_pair) (all_held t.count t.pairs c.held.ensures)) ∙ c.if-all.false)
