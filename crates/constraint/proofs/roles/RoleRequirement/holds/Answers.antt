-- `RoleRequirement::holds` meets its contract: the teams' counts added are the count of both together.
use Prim.Native.Nat.{◌+◌, ◌≤◌}
use mathlib.Core.Path.{◌≡◌, ◌∙◌}
use native.Mathlib.Omega.{arith}
use borrow.Author.Tests.{lt-leb}
use lib.ListN.{length, take, length-take}
use Rattle.base.proofs.Arrays.{unmapped}
use Rattle.roster.specs.Roster.{of_roles}
use Rattle.constraint.proofs.RoleLaws.{role_count_fits, both_few, both_enough}
use borrow.Author.Rules.{rules}
use Rattle.constraint.proofs.roles.RoleRequirement.holds.Goals as goal

pub overflow_add-count : goal.overflow_add-count
overflow_add-count c =
    let a = c.args in
    let m = c.args.proposed in
    let r = of_roles a.ids.now a.roles.now in
    let u : length m.a.players ≡ 8 = search (unmapped, rules) in
    let v : length m.b.players ≡ 8 = search (unmapped, rules) in
    let ps = take m.a.len m.a.players in
    let qs = take m.b.len m.b.players in
    let p = role_count_fits r a.self.role ps in
    let q = role_count_fits r a.self.role qs in
    let x = length-take m.a.len m.a.players in
    let y = length-take m.b.len m.b.players in
    let e = c.count_role.ensures in
    let f = c.count_role-2.ensures in
    let z : c.count_role.result + c.count_role-2.result ≤ 16 = omega arith in
    search rules

pub returns-then-self-count : goal.returns-then-self-count
returns-then-self-count c =
    let a = c.args in
    let m = c.args.proposed in
    both_enough (of_roles a.ids.now a.roles.now) (take m.a.len m.a.players) (take m.b.len m.b.players) a.self
    c.count_role.ensures
    c.count_role-2.ensures
    c.if-self-count.true
    c.is_within.ensures

pub returns-else-self-count : goal.returns-else-self-count
returns-else-self-count c =
    let a = c.args in
    let m = c.args.proposed in
    lt-leb a.self.least (c.count_role.result + c.count_role-2.result) c.if-self-count.false
    ∙ both_few (of_roles a.ids.now a.roles.now) (take m.a.len m.a.players) (take m.b.len m.b.players) a.self
    c.count_role.ensures
    c.count_role-2.ensures
    c.if-self-count.false
