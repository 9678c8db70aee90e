-- A search: the first in what is left is the first of all.
use mathlib.Core.Path.{ap, ◌∙◌}
use native.Mathlib.Omega.{arith}
use Rattle.base.specs.Refusals.{gives}
use Rattle.selection.specs.Selection.{stated}
use Rattle.selection.proofs.Laws.{first_hit, first_on, first_none}
use Rattle.selection.proofs.threshold.first_at_least.Goals as goal

pub returns-then-minimum-scores : goal.returns-then-minimum-scores
returns-then-minimum-scores c =
    let s = c.args in
    let l = c.loop-i in
    c.just.ensures ∙ ap (λ ps. stated (gives ps)) (first_hit s.scores s.n l.i (omega arith) s.minimum l.invariant (omega arith) c.if-minimum-scores.true)

pub loop-i-preserved : goal.loop-i-preserved
loop-i-preserved c =
    let s = c.args in
    let l = c.loop-i in
    first_on s.scores s.n l.i (omega arith) s.minimum l.invariant (omega arith) c.if-minimum-scores.false

pub returns : goal.returns
returns c =
    let s = c.args in
    let l = c.loop-i in
    c.nobody.ensures ∙ ap (λ ps. stated (gives ps)) (first_none s.scores s.n l.i (omega arith) s.minimum l.invariant (omega arith) (omega arith))
