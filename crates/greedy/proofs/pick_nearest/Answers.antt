-- Each run so far is what that many turns make, and the two find what one would.
use Prim.Native.Nat.{◌/◌}
use mathlib.Core.Path.{◌∙◌}
use native.Mathlib.Omega.{arith}
use Rattle.base.specs.Lists.{times}
use Rattle.base.proofs.Loops.{times_on}
use Rattle.greedy.specs.Steps.{nobody_of, nearer_free, nearer_from}
use Rattle.base.proofs.Nan.{one_by_zero}
use Rattle.greedy.proofs.Runs.{found_even, found_odd}
use Rattle.greedy.proofs.pick_nearest.Goals as goal

pub loop-i-init : goal.loop-i-init
unfolding times
loop-i-init c = ((λ j. record { place = c.args.n; distance = one_by_zero j }), (λ j. record { place = c.args.n; distance = one_by_zero j }))

pub loop-i-preserved : goal.loop-i-preserved
loop-i-preserved c =
    let s = c.args in
    let l = c.loop-i in
    let h = s.n / 2 in (
      times_on (nearer_free s.reference s.free.now) (nobody_of s.n) l.i l.invariant.0 c.nearer-first.ensures,
      times_on (nearer_from s.reference s.free.now h) (nobody_of s.n) l.i l.invariant.1 c.nearer-second.ensures,
    )

pub returns-then-half-n : goal.returns-then-half-n
returns-then-half-n c =
    let s = c.args in
    let l = c.loop-i in
    c.nearer_place.ensures ∙ found_odd s.reference s.free.now s.n (s.n / 2) l.i (omega arith) (omega arith) l.invariant.0 l.invariant.1 c.nearer.ensures (omega arith)

pub returns : goal.returns
returns c =
    let s = c.args in
    let l = c.loop-i in
    c.nearer_place-2.ensures ∙ found_even s.reference s.free.now s.n (s.n / 2) l.i (omega arith) (omega arith) l.invariant.0 l.invariant.1 (omega arith) (omega arith)
