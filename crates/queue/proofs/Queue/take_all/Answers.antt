-- Two rows are written from one: each holds what it has so far, and the rest gives what is missing.
use Rattle.std.proofs.Common.{◌≡◌, ◌≤◌, ◌∙◌, length, sym, arith, rules, length-set}
use mathlib.Core.Bool.{not}
use Rattle.base.proofs.Arrays.{unmapped}
use Rattle.base.proofs.Loops.{keep_on_of, keep_skip_of}
use Rattle.queue.specs.Columns.{no_entry}
use Rattle.queue.specs.Queue.{is_of_any}
use Rattle.queue.proofs.Laws.{parted}
use Rattle.queue.proofs.Queue.take_all.Goals as goal
use Rattle.queue.proofs.Queue.take_all.Goals.{then-is_among, else-is_among}

pub loop-i-preserved : goal.loop-i-preserved
loop-i-preserved c =
    let ps = c.args.players.now in
    let es = c.args.self.entries in
    let n = c.at_most-n.result in
    let l = c.loop-i in
    let f : length es ≡ 64 = search (unmapped, rules) in
    let h : n ≤ length es = omega arith in
    elim c.if-is_among.branch [
      | then-is_among w ↦
          let t = sym c.is_among.ensures ∙ w.if-is_among.true in
          rw (w.stay-is, w.gone-is, w.k-is, w.m-is) (
            omega arith,
            omega arith,
            l.invariant.2,
            simp length-set l.invariant.3,
            keep_skip_of (λ e. not (is_of_any ps e)) es n l.stay l.k l.i no_entry h l.invariant.4 (omega arith) (rw t),
            keep_on_of (is_of_any ps) es n l.gone l.m l.i no_entry h l.invariant.5 (omega arith) (omega arith) t,
          )
      | else-is_among w ↦
          let t = sym c.is_among.ensures ∙ w.if-is_among.false in
          rw (w.stay-is, w.gone-is, w.k-is, w.m-is) (
            omega arith,
            omega arith,
            simp length-set l.invariant.2,
            l.invariant.3,
            keep_on_of (λ e. not (is_of_any ps e)) es n l.stay l.k l.i no_entry h l.invariant.4 (omega arith) (omega arith) (rw t),
            keep_skip_of (is_of_any ps) es n l.gone l.m l.i no_entry h l.invariant.5 (omega arith) t,
          )
    ]

pub returns : goal.returns
returns c =
    let q = c.args.self in
    let f : length q.entries ≡ 64 = search (unmapped, rules) in
    let n = c.at_most-n.result in
    let l = c.loop-i in
    parted c.args.players.now q.entries q.len n f c.at_most-n.ensures l.stay l.gone l.k l.m l.i l.invariant.2 l.invariant.3 (omega arith) (omega arith) (omega arith) (omega arith) l.invariant.4 l.invariant.5
