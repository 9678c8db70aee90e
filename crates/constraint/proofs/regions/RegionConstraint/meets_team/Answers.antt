-- `RegionConstraint::meets_team` meets its contract: `all` over the players who are held.
use Prim.Native.Nat.{ℕ}
use mathlib.Core.Bool.{Bool}
use mathlib.Core.Path.{ap, ◌∙◌}
use lib.ListN.{take}
use Rattle.std.proofs.Common.{rules}
use Rattle.std.proofs.lemmas.Iterator.{YieldsList-from_slice}
use borrow.Author.Tests.{tests}
use Rattle.base.specs.Lists.{every}
use Rattle.base.proofs.Arrays.{all_held}
use Rattle.base.proofs.Chains.{every_ran}
use Rattle.roster.specs.Roster.{of_regions, region_of}
use Rattle.constraint.specs.Constraints.{may_meet, pairs_of}
use Rattle.constraint.proofs.regions.RegionConstraint.meets_team.Goals as goal

pub returns : goal.returns
returns c =
    let a = c.args in
    let t = c.args.team in
    let r = of_regions a.ids.now a.regions.now in
    let p : ℕ → Bool = λ other. may_meet (pairs_of a.self) (region_of r a.player) (region_of r other) in
    every_ran p _ c.all.ensures.ran (YieldsList-from_slice (take c.held.result t.players) cc) (λ x b q k. search (rules, tests))
    ∙ ap (every p) (all_held t.len t.players c.held.ensures)
