-- `roles::count_role` meets its contract: as many as `filter` lets through.
use mathlib.Core.Path.{ap, ◌∙◌}
use lib.ListN.{length, take}
use Rattle.std.proofs.Common.{rules}
use Rattle.std.proofs.lemmas.Iterator.{YieldsList-from_slice}
use borrow.Author.Tests.{tests}
use Rattle.std.proofs.lemmas.Iterator.Consumers.{YieldsList-from_filter, count_from_yields_List}
use Rattle.base.proofs.Arrays.{all_held}
use Rattle.base.proofs.Chains.{keep_of_list}
use Rattle.roster.specs.Roster.{of_roles}
use Rattle.constraint.specs.Constraints.{has_role, role_count}
use Rattle.constraint.proofs.roles.count_role.Goals as goal

pub returns : goal.returns
returns c =
    let a = c.args in
    let t = c.args.team in
    let players = take c.held.result t.players in
    let r = of_roles a.ids.now a.roles.now in
    let p = has_role r a.role in
    count_from_yields_List c.filter.result _ c.count.ensures.ran (YieldsList-from_filter _ p (YieldsList-from_slice players cc) c.filter.ensures.closure (λ x b q k. search (rules, tests)))
    ∙ ap length (keep_of_list p players)
    ∙ ap (role_count r a.role) (all_held t.len t.players c.held.ensures)
