-- What is left to fill still gives the whole, and the column of those who are free goes with the marks.
use Prim.Native.Nat.{ℕ, ◌+◌, ◌-◌}
use mathlib.Core.Path.{ap, ◌∙◌}
use native.Mathlib.Numerals.{unary_clauses}
use native.Mathlib.Omega.{arith}
use lib.ListN.{length, get_or}
use Rattle.seating.specs.Turns.{seats_left}
use Rattle.seating.proofs.TurnLaws.{held_whole}
use Rattle.greedy.specs.Steps.{columns, Fill, fill_of, filling}
use Rattle.greedy.proofs.Laws.{fills_end, fills_none, fills_on, pick_used}
use Rattle.greedy.proofs.Free.{still_free, nearest_free_lem}
use borrow.Author.Rules.{rules}
use Rattle.greedy.proofs.fill.Goals as goal

pub loop-init : goal.loop-init
loop-init c =
    let a = c.args in
    let o = c.open-out.ensures in
    let k = still_free (get_or a.players.now a.at 0) a.players.now a.ratings.now a.used.now (search rules) (search rules) c.requires.free_value (ap (λ (f : Fill). f.used) o.result_after) o.free_after in
    (k.0, k.1, simp unary_clauses)

pub returns-then-n-next : goal.returns-then-n-next
returns-then-n-next c =
    let a = c.args in
    let k = columns a.players.now a.ratings.now a.rostered.now in
    let n = length a.players.now in
    let l = c.loop in
    let whole = held_whole a.sizes c.requires.sizes_bound.0 c.requires.sizes_bound.1 in
    let o = c.open-out in
    let e = ap (λ (left : ℕ). filling a.sizes k n left (fill_of o.new.used o.result)) (c.seats_left-end.ensures ∙ ap seats_left whole) ∙ ap (filling a.sizes k n (seats_left a.sizes)) o.ensures.result_after in
    record { result_after = fills_none a.sizes k n (fill_of l.used l.out) (nearest_free_lem l.out.reference a.ratings.now l.used n l.invariant.1 c.pick_nearest-next.ensures) (c.seats_left-end.result - l.counter) (omega arith) c.if-n-next.true ∙ l.invariant.2 ∙ e; free_after = l.invariant.1 }

pub loop-preserved : goal.loop-preserved
loop-preserved c =
    let a = c.args in
    let k = columns a.players.now a.ratings.now a.rostered.now in
    let n = length a.players.now in
    let l = c.loop in
    let f = fill_of l.used l.out in
    let next = c.pick_nearest-next.result in
    let end = c.seats_left-end.result in
    let p = c.pick-out.ensures in
    let marks = ap (λ (g : Fill). g.used) p.result_after ∙ pick_used a.sizes a.players.now a.rostered.now f next in
    let g = still_free (get_or a.players.now next 0) a.players.now a.ratings.now l.used (search rules) l.invariant.0 l.invariant.1 marks p.free_after in
    (g.0, g.1, fills_on a.sizes k n f (nearest_free_lem l.out.reference a.ratings.now l.used n l.invariant.1 c.pick_nearest-next.ensures) (end - l.counter) (end - (l.counter + 1)) (omega arith) (omega arith) p.result_after ∙ l.invariant.2)

pub returns : goal.returns
returns c =
    let a = c.args in
    let k = columns a.players.now a.ratings.now a.rostered.now in
    let n = length a.players.now in
    let l = c.loop in
    let whole = held_whole a.sizes c.requires.sizes_bound.0 c.requires.sizes_bound.1 in
    let o = c.open-out in
    let e = ap (λ (left : ℕ). filling a.sizes k n left (fill_of o.new.used o.result)) (c.seats_left-end.ensures ∙ ap seats_left whole) ∙ ap (filling a.sizes k n (seats_left a.sizes)) o.ensures.result_after in
    record { result_after = fills_end a.sizes k n (c.seats_left-end.result - l.counter) (fill_of l.used l.out) (omega arith) ∙ l.invariant.2 ∙ e; free_after = l.invariant.1 }
