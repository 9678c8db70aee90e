-- The verdict on the constraints as they cross, in numbers.
use mathlib.Core.Path.{ap, ◌∙◌}
use Rattle.roster.specs.Roster.{of_rules}
use Rattle.matchmaker.specs.Quality.{match_of}
use Rattle.constraint.specs.Refusing.{constraints_rule}
use Rattle.constraint.specs.declared.Constraints.{Constraints}
use Rattle.capi.specs.Rules.{verdict_numbers}
use Rattle.capi.proofs.rules.yilgashe_constraints_satisfied.Goals as goal

pub returns : goal.returns
returns c =
    let a = c.args in
    c.verdict_numbers.ensures
    ∙ ap verdict_numbers
    (c.satisfies_constraints.ensures
    ∙ ap (λ (q : Constraints). constraints_rule (of_rules a.ids.now a.ratings.now a.parties.now a.roles.now a.regions.now) q (match_of a.proposed)) c.constraints_of-all.ensures)
