-- Each turn writes one objective behind those before it.
use mathlib.Core.Path.{◌≡◌, refl}
use native.Mathlib.Omega.{arith}
use lib.ListN.{length, length-set}
use Rattle.capi.proofs.Softs.{softs_on, softs_end}
use borrow.Author.Rules.{rules}
use Rattle.capi.proofs.scores.SoftObjectives.objectives.Goals as goal

pub loop-i-init : goal.loop-i-init
loop-i-init c = (search rules, refl)

pub loop-i-preserved : goal.loop-i-preserved
loop-i-preserved c =
    let s = c.args.self in
    let l = c.loop-i in
    let k : length s.kinds ≡ 8 = search rules in
    let w : length s.weights ≡ 8 = search rules in
    (simp length-set l.invariant.0, softs_on s.kinds s.weights l.out l.i l.invariant.1 (omega arith) (omega arith) (omega arith) c.soft_of.ensures)

pub returns : goal.returns
returns c =
    let s = c.args.self in
    let l = c.loop-i in
    let k : length s.kinds ≡ 8 = search rules in
    softs_end s.kinds s.weights l.out l.i l.invariant.1 (omega arith) (omega arith)
