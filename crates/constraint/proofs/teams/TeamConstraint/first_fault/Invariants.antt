-- `TeamConstraint::first_fault` meets its contract: the requirements from place i on report what all of them report.
use mathlib.Core.Path.{◌≡◌}
use lib.ListN.{drop}
use Rattle.roster.specs.Roster.{of_roles}
use Rattle.matchmaker.specs.Quality.{team_of}
use Rattle.constraint.specs.Refusing.{report_from}
use Rattle.constraint.proofs.teams.TeamConstraint.first_fault.Given as goal

abbrev pub invariant-loop-i : goal.invariant-loop-i
invariant-loop-i l = report_from (of_roles l.ids l.roles) (team_of l.team).players l.i (drop l.i l.requirement-items) ≡ report_from (of_roles l.ids l.roles) (team_of l.team).players 0 l.requirement-items
