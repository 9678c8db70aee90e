-- Each place so far has the sets of its guest's places too, and the others are as they were.
use Prim.Native.Nat.{ℕ}
use mathlib.Core.Path.{refl, ap}
use native.Mathlib.Omega.{arith}
use lib.Bits.{bit_or}
use lib.ListN.{get_or, length-set}
use Rattle.base.proofs.Arrays.{made_on, made_rest}
use Rattle.choice.specs.Reading.{pooled}
use borrow.Author.Rules.{rules}
use Rattle.choice.proofs.friends.pool_all.Goals as goal

pub loop-i-init : goal.loop-i-init
loop-i-init c = (search rules, λ j h. absurd (omega arith), λ j h. refl)

pub loop-i-preserved : goal.loop-i-preserved
loop-i-preserved c =
    let l = c.loop-i in
    let queued = c.args.queued.now in
    let f : ℕ → ℕ → ℕ = λ j x. bit_or x (pooled (get_or queued j 0) queued c.args.sets.now) in (
      simp length-set l.invariant.0,
      made_on f c.args.first l.out l.i 0 l.invariant.1 l.invariant.2 (omega (arith, l.invariant.0, c.requires)) (ap (bit_or (get_or l.out l.i 0)) c.pool.ensures),
      made_rest f c.args.first l.out l.i 0 l.invariant.1 l.invariant.2 _,
    )

pub returns : goal.returns
returns c =
    let l = c.loop-i in
    λ i h. l.invariant.1 i (omega arith)
