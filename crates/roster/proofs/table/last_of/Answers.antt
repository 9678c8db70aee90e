-- The last row that has the id is the last up to where the walk is.
use Prim.Native.Nat.{◌-◌}
use mathlib.Core.Path.{refl}
use native.Mathlib.Omega.{arith}
use Rattle.roster.proofs.Buckets.{walk_hit, walk_on, walk_end}
use borrow.Author.Rules.{rules}
use Rattle.roster.proofs.table.last_of.Goals as goal

pub loop-k-init : goal.loop-k-init
loop-k-init c = (omega arith, refl, search rules)

pub returns-then-ids-row : goal.returns-then-ids-row
returns-then-ids-row c =
    let l = c.loop-k in
    let a = c.args in
    walk_hit a.ids.now a.before.now a.id a.from l.k (l.k - 1) l.invariant.1 (omega arith) c.if-ids-row.true

pub loop-k-smaller : goal.loop-k-smaller
loop-k-smaller c =
    let l = c.loop-k in
    let a = c.args in
    let w = walk_on a.ids.now a.before.now a.id a.from l.k (l.k - 1) l.invariant.1 (omega arith) l.invariant.2 c.if-ids-row.false c.wide-k.ensures (c.requires.before_len.1 (l.k - 1) (omega arith)) in
    omega (arith, w.0)

pub loop-k-preserved : goal.loop-k-preserved
loop-k-preserved c =
    let l = c.loop-k in
    let a = c.args in
    let w = walk_on a.ids.now a.before.now a.id a.from l.k (l.k - 1) l.invariant.1 (omega arith) l.invariant.2 c.if-ids-row.false c.wide-k.ensures (c.requires.before_len.1 (l.k - 1) (omega arith)) in
    (omega (arith, w.0), w.1, w.2)

pub returns : goal.returns
returns c =
    let l = c.loop-k in
    let a = c.args in
    walk_end a.ids.now a.before.now a.id a.from l.k 0 l.invariant.1 (omega arith)
