-- `TeamConstraint::first_fault` meets its contract: the requirements from place i on report what all of them report.
use mathlib.Core.Path.{sym, ap, ◌∙◌}
use native.Mathlib.Omega.{arith}
use lib.ListN.{take}
use Rattle.base.proofs.Arrays.{all_held}
use Rattle.roster.specs.Roster.{of_roles}
use Rattle.matchmaker.specs.Quality.{team_of}
use Rattle.constraint.specs.Refusing.{report_from}
use Rattle.constraint.proofs.RoleLaws.{report_few, report_many, report_on, report_end}
use Rattle.constraint.proofs.teams.TeamConstraint.first_fault.Goals as goal

pub returns-then-count-requirement : goal.returns-then-count-requirement
returns-then-count-requirement c =
    let a = c.args in
    let q = c.args.self.roles in
    let l = c.loop-i in
    let r = of_roles a.ids.now a.roles.now in
    let t = (team_of a.team).players in
    report_few r t (take c.held.result q.requirements) l.i l.invariant (omega arith) (rw c.count_role-count.ensures at c.if-count-requirement.true)
    ∙ ap (report_from r t 0) (all_held q.count q.requirements c.held.ensures)

pub returns-then-not-is_within : goal.returns-then-not-is_within
returns-then-not-is_within c =
    let a = c.args in
    let q = c.args.self.roles in
    let l = c.loop-i in
    let r = of_roles a.ids.now a.roles.now in
    let t = (team_of a.team).players in
    let n = c.count_role-count in
    report_many r t (take c.held.result q.requirements) l.i l.invariant (omega arith)
    (rw n.ensures at c.if-count-requirement.false)
    (rw n.ensures at (sym c.is_within.ensures ∙ c.if-not-is_within.true))
    ∙ ap (report_from r t 0) (all_held q.count q.requirements c.held.ensures)

pub loop-i-preserved : goal.loop-i-preserved
loop-i-preserved c =
    let a = c.args in
    let q = c.args.self.roles in
    let l = c.loop-i in
    let n = c.count_role-count in
    report_on (of_roles a.ids.now a.roles.now) (team_of a.team).players (take c.held.result q.requirements) l.i l.invariant (omega arith)
    (rw n.ensures at c.if-count-requirement.false)
    (rw n.ensures at (sym c.is_within.ensures ∙ c.if-not-is_within.false))

pub returns : goal.returns
returns c =
    let a = c.args in
    let q = c.args.self.roles in
    let l = c.loop-i in
    let r = of_roles a.ids.now a.roles.now in
    let t = (team_of a.team).players in
    report_end r t (take c.held.result q.requirements) l.i l.invariant (omega arith)
    ∙ ap (report_from r t 0) (all_held q.count q.requirements c.held.ensures)
