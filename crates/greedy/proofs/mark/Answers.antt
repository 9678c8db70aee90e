-- The marks so far, with what the rest still gives, and the same of who is free.
use mathlib.Core.Path.{ap, ◌∙◌}
use mathlib.Core.Bool.{true, false}
use native.Mathlib.Omega.{arith}
use borrow.Author.Rules.{rules}
use borrow.Author.Tests.{eq-eqb, ne_eqb}
use lib.Ieee.{Float, nan}
use Rattle.base.proofs.Nan.{zero_by_zero}
use Rattle.greedy.specs.Steps.{struck}
use Rattle.greedy.proofs.Laws.{strike_hit, strike_miss, strike_end}
use Rattle.greedy.proofs.mark.Goals as goal
use Rattle.greedy.proofs.mark.Goals.{then-other-player, else-other-player}

pub loop-i-preserved : goal.loop-i-preserved
loop-i-preserved c =
    let l = c.loop-i in
    let p = c.args.player in
    let xs = c.args.players.now in
    elim c.if-other-player.branch [
      | then-other-player w ↦ let t = eq-eqb _ _ w.if-other-player.true in
          rw (w.used-is, w.free-is) (
            strike_hit true false p xs l.used l.i l.invariant.0 (search rules) (search rules) t,
            strike_hit _ nan p xs l.free l.i l.invariant.1 (search rules) (search rules) t,
          )
      | else-other-player w ↦ let f = ne_eqb _ _ w.if-other-player.false in
          rw (w.used-is, w.free-is) (
            strike_miss true false p xs l.used l.i l.invariant.0 (search rules) (search rules) f,
            strike_miss _ nan p xs l.free l.i l.invariant.1 (search rules) (search rules) f,
          )
    ]

pub returns-clause-used_after : goal.returns-clause-used_after
returns-clause-used_after c =
    strike_end true false c.args.player c.args.players.now c.loop-i.used c.loop-i.i c.loop-i.invariant.0 (omega arith)

pub returns-clause-free_after : goal.returns-clause-free_after
returns-clause-free_after c =
    strike_end _ nan c.args.player c.args.players.now c.loop-i.free c.loop-i.i c.loop-i.invariant.1 (omega arith)
    ∙ ap (λ (x : Float). struck x c.args.player c.args.players.now c.args.free.now) zero_by_zero
