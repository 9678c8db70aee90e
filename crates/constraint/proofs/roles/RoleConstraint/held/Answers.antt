-- `RoleConstraint::held` meets its contract: a stated count over 8 holds all 8 places, another as many as it says.
use mathlib.Core.Path.{◌≡◌}
use native.Mathlib.Omega.{arith}
use lib.ListN.{length, length-take}
use Rattle.base.proofs.Arrays.{unmapped}
use borrow.Author.Rules.{rules}
use Rattle.constraint.proofs.roles.RoleConstraint.held.Goals as goal

pub returns : goal.returns
returns c =
    let t = c.args.self in
    let l : length t.requirements ≡ 8 = search (unmapped, rules) in
    omega (arith, c.at_most.ensures, length-take t.count t.requirements)
