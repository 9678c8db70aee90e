-- `latency::is_team_above_zero` meets its contract: `all` over the players who are held.
use mathlib.Core.Path.{ap, ◌∙◌}
use mathlib.Core.Bool.{Bool}
use Prim.Native.Nat.{ℕ}
use lib.ListN.{take}
use Rattle.std.proofs.Common.{rules}
use Rattle.std.proofs.lemmas.Iterator.{YieldsList-from_slice}
use borrow.Author.Tests.{tests}
use Rattle.base.specs.Lists.{every}
use Rattle.base.proofs.Arrays.{all_held}
use Rattle.base.proofs.Chains.{every_ran}
use Rattle.roster.specs.Roster.{of_ratings, rating_of}
use Rattle.constraint.specs.Constraints.{above_zero}
use Rattle.constraint.proofs.latency.is_team_above_zero.Goals as goal

pub returns : goal.returns
returns c =
    let t = c.args.team in
    let p : ℕ → Bool = λ player. above_zero (rating_of (of_ratings c.args.ids.now c.args.ratings.now) player) in
    every_ran p _ c.all.ensures.ran (YieldsList-from_slice (take c.held.result t.players) cc) (λ x b q k. search (rules, tests))
    ∙ ap (every p) (all_held t.len t.players c.held.ensures)
