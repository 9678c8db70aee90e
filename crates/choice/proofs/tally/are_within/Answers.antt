-- The limits that are left decide.
use Prim.Native.Nat.{◌+◌, ◌-◌}
use mathlib.Core.Path.{◌≡◌}
use native.Mathlib.Omega.{arith}
use Rattle.choice.specs.Reading.{in_limits}
use Rattle.choice.proofs.Limits.{limits_few, limits_many, limits_on}
use Rattle.choice.proofs.tally.are_within.Goals as goal

pub returns-then-count-l : goal.returns-then-count-l
returns-then-count-l c =
    let l = c.loop in
    limits_few (c.args.asked - (l.counter + 1)) l.c l.l l.m l.invariant (omega arith) c.if-count-l.true

pub returns-then-m-count : goal.returns-then-m-count
returns-then-m-count c =
    let l = c.loop in
    limits_many (c.args.asked - (l.counter + 1)) l.c l.l l.m l.invariant (omega arith) c.if-count-l.false c.if-m-count.true

pub loop-preserved : goal.loop-preserved
loop-preserved c =
    let l = c.loop in
    limits_on (c.args.asked - (l.counter + 1)) l.c l.l l.m l.invariant (omega arith) c.if-count-l.false c.if-m-count.false

pub returns : goal.returns
unfolding in_limits
returns c =
    let l = c.loop in
    let z : c.args.asked - l.counter ≡ 0 = omega arith in
    rw z at l.invariant
