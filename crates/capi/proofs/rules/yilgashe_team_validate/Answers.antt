-- The report on the requirements as they cross, in numbers.
use mathlib.Core.Path.{ap, ◌∙◌}
use Rattle.roster.specs.Roster.{of_roles}
use Rattle.matchmaker.specs.Quality.{team_of}
use Rattle.constraint.specs.Refusing.{validate_rule}
use Rattle.constraint.specs.declared.roles.RoleConstraint.{RoleConstraint}
use Rattle.capi.specs.Rules.{validity_numbers}
use Rattle.capi.proofs.rules.yilgashe_team_validate.Goals as goal

pub returns : goal.returns
returns c =
    let a = c.args in
    c.validity_numbers.ensures
    ∙ ap validity_numbers (c.validate.ensures ∙ ap (λ (q : RoleConstraint). validate_rule (of_roles a.ids.now a.roles.now) (record { size = a.size; roles = q }) (team_of a.team)) c.roles_of.ensures)
