-- What the exported constraints, policy and selections answer, and how requirements cross: numbers in the place of an enum.
use Rattle.std.specs.Prelude.{ℕ, Bool, true, false, cond, map, Float, take}
use Rattle.base.specs.Lists.{any}
use Rattle.base.specs.Refusals.{Outcome, refused}
use Rattle.roster.specs.Roster.{Roster}
use Rattle.matchmaker.specs.Quality.{MatchState}
use Rattle.std.specs.Prelude.{Option, None, Some}
use Rattle.constraint.specs.declared.roles.RoleRequirement as core
use Rattle.constraint.specs.declared.roles.RoleConstraint.{RoleConstraint}
use Rattle.constraint.specs.declared.Constraints as whole
use Rattle.constraint.specs.declared.teams.Validity as team
use Rattle.constraint.specs.declared.teams.Validity.TheVariants.{Valid, WrongSize, TooFew, TooMany}
use Rattle.policy.specs.Policy.{policy_score_rule}
use Rattle.base.specs.Numbers.{refusal_of, value_or}
use Rattle.capi.specs.Scores.{is_no_kind, softs_of}
use Rattle.capi.specs.declared.scores.SoftObjectives.{SoftObjectives}
use Rattle.capi.specs.declared.rules.RoleRequirement.{RoleRequirement}
use Rattle.capi.specs.declared.rules.RoleRequirements.{RoleRequirements}
use Rattle.capi.specs.declared.rules.Constraints.{Constraints}
use Rattle.capi.specs.declared.rules.Verdict.{Verdict}
use Rattle.capi.specs.declared.rules.Validity.{Validity}

-- a maximum that counts only where it is bounded
abbrev pub maximum_of : Bool → ℕ → Option ℕ
maximum_of true most = Some most
maximum_of false most = None

abbrev pub requirement_of : RoleRequirement → core.RoleRequirement
requirement_of r = record { role = r.role; least = r.least; most = maximum_of r.bounded r.most }

abbrev pub roles_of : RoleRequirements → RoleConstraint
roles_of r = record { requirements = map requirement_of r.items; count = r.len }

abbrev pub constraints_of : Constraints → whole.Constraints
constraints_of c = record { brought = c.brought; sizes = c.sizes; roles = roles_of c.roles; regions = c.regions }

abbrev pub verdict_numbers : Outcome Bool → Verdict
verdict_numbers o = record { satisfied = value_or false o; refusal = refusal_of o }

-- 0 valid, 1 wrong size, 2 too few, 3 too many; the place of the requirement for the last two
abbrev pub fault_of : team.Validity → ℕ
fault_of Valid = 0
fault_of WrongSize = 1
fault_of (TooFew i) = 2
fault_of (TooMany i) = 3

abbrev pub place_of : team.Validity → ℕ
place_of Valid = 0
place_of WrongSize = 0
place_of (TooFew i) = i
place_of (TooMany i) = i

abbrev pub validity_numbers : Outcome team.Validity → Validity
validity_numbers o = record { place = place_of (value_or Valid o); fault = fault_of (value_or Valid o); refusal = refusal_of o }

-- a soft kind that is none, or the policy's score
abbrev pub policy_numbers : Roster → Constraints → SoftObjectives → MatchState → Outcome Float
policy_numbers r c s m =
    cond (any is_no_kind (take s.len s.kinds)) (refused 1)
    (policy_score_rule r (constraints_of c) (softs_of s.kinds s.weights) s.len m)
