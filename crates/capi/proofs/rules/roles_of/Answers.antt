-- Each requirement is made of the item at its place.
use mathlib.Core.Path.{◌≡◌}
use mathlib.Core.Bool.{false}
use borrow.Author.Rules.{rules}
use borrow.Author.Tests.{tests}
use lib.ListN.{length}
use Rattle.base.proofs.Arrays.{unmapped}
use Rattle.choice.proofs.Mapped.{mapped}
use Rattle.capi.specs.Rules.{requirement_of}
use Rattle.capi.specs.declared.rules.RoleRequirement.{RoleRequirement}
use Rattle.capi.proofs.rules.roles_of.Goals as goal

pub returns : goal.returns
returns c =
    let s = c.args.r in
    let k : length s.items ≡ 8 = search (unmapped, rules) in
    let none : RoleRequirement = record { role = 0; least = 0; bounded = false; most = 0 } in
    let e = mapped requirement_of s.items c.map.ensures.items k none (λ x y p q j. search (rules, tests)) in
    λ j. record { requirements = e j; count = s.len }
