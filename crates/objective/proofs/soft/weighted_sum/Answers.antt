-- `soft::weighted_sum` meets its contract: the sum so far with the rest of the objectives makes the whole sum.
use mathlib.Core.Path.{◌≡◌, sym, ap, ◌∙◌}
use mathlib.Core.List.{foldl}
use native.Mathlib.Omega.{arith}
use lib.Ieee.{nan}
use lib.ListN.{length, take}
use Rattle.base.specs.Floats.{zero}
use Rattle.base.proofs.Arrays.{unmapped, take_held}
use Rattle.base.proofs.Loops.{fold_on, fold_end}
use Rattle.objective.specs.declared.soft.SoftObjective.TheVariants.{Skill}
use Rattle.objective.specs.Soft.{weighted}
use borrow.Author.Rules.{rules}
use Rattle.objective.proofs.soft.weighted_sum.Goals as goal

pub loop-objective-preserved : goal.loop-objective-preserved
loop-objective-preserved c =
    let a = c.args in
    let l = c.loop-objective in
    fold_on (weighted a.quality a.latency) _ _ l.objective-index (omega arith) c.add_weighted-sum.ensures ∙ l.invariant

pub returns : goal.returns
returns c =
    let a = c.args in
    let w : length a.objectives ≡ 8 = search (unmapped, rules) in
    let l = c.loop-objective in
    let f = weighted a.quality a.latency in
    sym (fold_end f (Skill nan) _ l.objective-index l.sum (omega arith))
    ∙ l.invariant
    ∙ ap (λ n. foldl f zero (take n a.objectives)) c.at_most.ensures
    ∙ ap (foldl f zero) (take_held a.objectives a.count 8 w)
