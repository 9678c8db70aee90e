-- `RegionConstraint::held` meets its contract: a stated count over 16 holds all 16 places, another as many as it says.
use mathlib.Core.Path.{◌≡◌}
use native.Mathlib.Omega.{arith}
use lib.ListN.{length, length-take}
use Rattle.base.proofs.Arrays.{unmapped}
use borrow.Author.Rules.{rules}
use Rattle.constraint.proofs.regions.RegionConstraint.held.Goals as goal

pub returns : goal.returns
returns c =
    let t = c.args.self in
    let l : length t.pairs ≡ 16 = search (unmapped, rules) in
    omega (arith, c.at_most.ensures, length-take t.count t.pairs)
