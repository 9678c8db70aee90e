-- The ids up to the row that is looked at differ.
use mathlib.Core.Path.{◌≡◌, sym, ◌∙◌}
use native.Mathlib.Omega.{arith}
use lib.ListN.{get_or}
use Rattle.roster.proofs.Buckets.{walk_asks, walk_finds, differ_on, differ_not}
use Rattle.roster.proofs.table.still_differ.Goals as goal

pub last_of-requires : goal.last_of-requires
last_of-requires c =
    let l = c.loop-i in
    let a = c.args in
    let e = c.wide.ensures ∙ c.requires.before_len.1 l.i (omega arith) in
    let told = walk_asks a.ids.now a.before.now (get_or a.ids.now l.i 0) l.i e (omega arith) (omega arith) c.requires.before_len.0 (λ row h. c.requires.before_len.1 row (omega arith)) in
    record { from_in_bounds = told.0; before_len = told.1.0; from_value = told.1.1 }

pub returns-then-last_of-gt0 : goal.returns-then-last_of-gt0
returns-then-last_of-gt0 c =
    let l = c.loop-i in
    let a = c.args in
    let e = c.wide.ensures ∙ c.requires.before_len.1 l.i (omega arith) in
    let k = walk_finds a.ids.now (get_or a.ids.now l.i 0) l.i e c.last_of.ensures in
    sym (differ_not a.ids.now l.i a.to (omega arith) (omega arith) (omega arith))

pub loop-i-preserved : goal.loop-i-preserved
loop-i-preserved c =
    let l = c.loop-i in
    let a = c.args in
    let e = c.wide.ensures ∙ c.requires.before_len.1 l.i (omega arith) in
    let k = walk_finds a.ids.now (get_or a.ids.now l.i 0) l.i e c.last_of.ensures in
    differ_on a.ids.now l.i (omega arith) l.invariant (omega arith)

pub returns : goal.returns
returns c =
    let l = c.loop-i in
    let e : l.i ≡ c.args.to = omega arith in
    sym (rw e at l.invariant)
