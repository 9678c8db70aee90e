-- The verdict on the requirements as they cross, in numbers.
use mathlib.Core.Path.{ap, ◌∙◌}
use Rattle.roster.specs.Roster.{of_roles}
use Rattle.matchmaker.specs.Quality.{match_of}
use Rattle.constraint.specs.Refusing.{roles_rule}
use Rattle.constraint.specs.declared.roles.RoleConstraint.{RoleConstraint}
use Rattle.capi.specs.Rules.{verdict_numbers}
use Rattle.capi.proofs.rules.yilgashe_roles_satisfied.Goals as goal

pub returns : goal.returns
returns c =
    let a = c.args in
    c.verdict_numbers.ensures
    ∙ ap verdict_numbers (c.is_satisfied.ensures ∙ ap (λ (q : RoleConstraint). roles_rule (of_roles a.ids.now a.roles.now) q (match_of a.proposed)) c.roles_of-required.ensures)
