-- The marks and the sheets so far are what that many anchors make, and the column of those who are free goes with the marks.
use native.Mathlib.Omega.{arith}
use lib.ListN.{length}
use Rattle.base.proofs.All.{place_below}
use Rattle.roster.specs.Roster.{of_ratings}
use Rattle.greedy.specs.Steps.{columns, fill_of, paper_of}
use Rattle.greedy.proofs.Free.{free_all}
use Rattle.greedy.proofs.Papers.{reached_none, reached_used, reached_filled}
use borrow.Author.Rules.{rules}
use Rattle.greedy.proofs.match_all.Goals as goal
use Rattle.greedy.proofs.match_all.Goals.{then-not-used-at, else-not-used-at}

pub loop-i-init : goal.loop-i-init
loop-i-init c =
    let a = c.args in
    let k = columns a.players.now a.entered.now a.rostered.now in
    let r = of_ratings a.ids.now a.ratings.now in
    (free_all a.entered.now 64, reached_none a.sizes k a.turns.now (length a.players.now) r a.seats.now a.qualities.now)

pub fill-filled-requires-clause-at_bound : goal.fill-filled-requires-clause-at_bound
fill-filled-requires-clause-at_bound c =
    let a = c.args in
    let n = length a.players.now in
    (omega (arith, c.requires.turns_bound.0), place_below n a.turns.now n c.loop-i.i (omega (arith, c.requires.turns_bound.0)) (omega arith) c.requires.turns_bound.1)

pub loop-i-preserved : goal.loop-i-preserved
loop-i-preserved c =
    let a = c.args in
    let k = columns a.players.now a.entered.now a.rostered.now in
    let n = length a.players.now in
    let r = of_ratings a.ids.now a.ratings.now in
    let l = c.loop-i in
    elim c.if-not-used-at.branch [
      | then-not-used-at w ↦
          let u = w.fill-filled.new.used in
          rw (w.seats-is, w.qualities-is, w.used-is, w.free-is, w.written-is)
          (w.fill-filled.ensures.free_after, reached_filled a.sizes k a.turns.now n r a.seats.now a.qualities.now l.i l.used (paper_of l.written l.seats l.qualities) l.invariant.1 (omega (arith, c.requires.in_bounds)) (search (w.if-not-used-at.true, rules)) {f = fill_of u w.fill-filled.result} w.fill-filled.ensures.result_after w.form-written.ensures)
      | else-not-used-at w ↦
          rw (w.seats-is, w.qualities-is, w.used-is, w.free-is, w.written-is)
          (l.invariant.0, reached_used a.sizes k a.turns.now n r a.seats.now a.qualities.now l.i l.used (paper_of l.written l.seats l.qualities) l.invariant.1 (search (w.if-not-used-at.false, rules)))
    ]
