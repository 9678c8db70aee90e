-- `RoleConstraint::holds` meets its contract: `all` over the requirements that are held.
use mathlib.Core.Path.{ap, ◌∙◌}
use lib.ListN.{take}
use Rattle.std.proofs.Common.{rules}
use Rattle.std.proofs.lemmas.Iterator.{YieldsList-from_slice}
use borrow.Author.Tests.{tests}
use Rattle.base.specs.Lists.{every}
use Rattle.base.proofs.Arrays.{all_held}
use Rattle.base.proofs.Chains.{every_ran}
use Rattle.roster.specs.Roster.{of_roles}
use Rattle.matchmaker.specs.Quality.{match_of, seated}
use Rattle.constraint.specs.Constraints.{requirement_holds}
use Rattle.constraint.proofs.roles.RoleConstraint.holds.Goals as goal

pub returns : goal.returns
returns c =
    let a = c.args in
    let t = c.args.self in
    let p = requirement_holds (of_roles a.ids.now a.roles.now) (seated (match_of a.proposed)) in
    every_ran p _ c.all.ensures.ran (YieldsList-from_slice (take c.held.result t.requirements) cc) (λ x b q k. search (rules, tests))
    ∙ ap (every p) (all_held t.count t.requirements c.held.ensures)
