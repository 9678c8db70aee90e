-- One place after another; the first that is not idle decides.
use Prim.Native.Nat.{◌+◌, ◌-◌}
use mathlib.Core.Path.{◌≡◌, ap, ◌∙◌}
use mathlib.Core.Bool.{◌&&◌}
use native.Mathlib.Omega.{arith}
use borrow.Author.Rules.{rules}
use lib.Ieee.{Float, lt}
use lib.ListN.{take}
use Rattle.choice.specs.Sums.{score_by, idle_at, idle_from}
use Rattle.choice.specs.declared.Sums.{Sums}
use Rattle.choice.proofs.Idle.{idle_not, idle_on}
use Rattle.choice.proofs.are_idle.Goals as goal

pub score_of-score-requires : goal.score_of-score-requires
score_of-score-requires c = (c.requires.0, c.requires.1.0)

pub returns-then-not-is_idle : goal.returns-then-not-is_idle
returns-then-not-is_idle c =
    let l = c.loop-at in
    idle_not (idle_at (take c.args.count c.args.objectives) c.args.sizes c.args.rows.now c.args.rated.now c.args.sums c.args.first c.args.found c.args.many c.args.top) l.at (c.args.from + c.args.rest - (l.at + 1)) l.invariant (omega arith) (c.is_idle.ensures ∙ ap (λ (y : Float). c.args.found && (c.args.many && lt y c.args.top)) (c.score_of-score.ensures ∙ ap (λ (x : Sums). score_by (take c.args.count c.args.objectives) x c.args.sizes.a c.args.sizes.b) c.sums_with-next.ensures)) (search rules)

pub loop-at-preserved : goal.loop-at-preserved
loop-at-preserved c =
    let l = c.loop-at in
    idle_on (idle_at (take c.args.count c.args.objectives) c.args.sizes c.args.rows.now c.args.rated.now c.args.sums c.args.first c.args.found c.args.many c.args.top) l.at (c.args.from + c.args.rest - (l.at + 1)) l.invariant (omega arith) (c.is_idle.ensures ∙ ap (λ (y : Float). c.args.found && (c.args.many && lt y c.args.top)) (c.score_of-score.ensures ∙ ap (λ (x : Sums). score_by (take c.args.count c.args.objectives) x c.args.sizes.a c.args.sizes.b) c.sums_with-next.ensures)) (search rules)

pub returns : goal.returns
unfolding idle_from
returns c =
    let l = c.loop-at in
    let z : c.args.from + c.args.rest - l.at ≡ 0 = omega arith in
    rw z at l.invariant
