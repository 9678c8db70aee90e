-- The walk on two lent sheets: at the end of a choice its match is written; else the choices with the next player, then those
-- without. What the first call wrote is counted by its contract, and the second goes on there.
use Prim.Native.Nat.{◌+◌, ◌-◌, ◌≤◌}
use mathlib.Core.Path.{◌≡◌, ap, ◌∙◌}
use native.Mathlib.Nat.{one-mul}
use native.Mathlib.Omega.{arith}
use lib.ListN.{length, take, drop, length-take, length-set}
use Rattle.matchmaker.specs.Quality.{MatchState, match_of, seated}
use Rattle.seating.specs.Seating.{seats_of}
use Rattle.candidate.specs.Walks.{Listing, listing, listed}
use Rattle.candidate.proofs.Walking.{ways_none, ways_step, ways_room, seat_more, through_short, two_calls, all_done, all_at, one_listed}
use Rattle.candidate.proofs.exhaustive.+combinations.Goals as goal

pub slice_bounds-write_match-count : goal.slice_bounds-write_match-count
slice_bounds-write_match-count t c = omega (arith, c.requires)

pub slice_bounds-write_match-start : goal.slice_bounds-write_match-start
slice_bounds-write_match-start t c = omega (arith, c.requires)

pub offset_bounds-qualities-done : goal.offset_bounds-qualities-done
offset_bounds-qualities-done t c =
    let g = rw (c.if-left-eq0.true, ways_none) at c.requires.left_in_bounds in
    omega (arith, g, c.well_formed)

pub bounds-qualities-done : goal.bounds-qualities-done
bounds-qualities-done t c =
    let g = rw (c.if-left-eq0.true, ways_none) at c.requires.left_in_bounds in
    omega (arith, g)

pub overflow_add-result : goal.overflow_add-result
overflow_add-result t c =
    let e : c.args.left ≡ 0 = c.if-left-eq0.true in
    let f = rw (e, ways_none, one-mul) at c.requires.sizes_in_bounds in
    omega (arith, e, f, c.requires.a_bound, c.well_formed, c.seats.ensures)

pub overflow_add-result-then-left-eq0 : goal.overflow_add-result-then-left-eq0
overflow_add-result-then-left-eq0 t c =
    let g = rw (c.if-left-eq0.true, ways_none) at c.requires.left_in_bounds in
    omega (arith, g, c.well_formed)

pub shape_of-qualities-then-left-eq0 : goal.shape_of-qualities-then-left-eq0
shape_of-qualities-then-left-eq0 t c = simp length-set

pub returns-then-left-eq0 : goal.returns-then-left-eq0
returns-then-left-eq0 t c =
    let e : c.args.left ≡ 0 = c.if-left-eq0.true in
    let f = rw (e, ways_none, one-mul) at c.requires.sizes_in_bounds in
    let g = rw (e, ways_none) at c.requires.left_in_bounds in
    rw e
    (one_listed c.args.sizes (match_of c.args.teams) (take c.args.rest (drop c.args.from c.args.queued.now)) c.args.players.now c.args.qualities.now c.args.marks.at c.args.marks.done _ (omega (arith, e, f, c.requires.a_bound)) (omega (arith, g)) c.write_match.ensures c.seats.ensures)

pub returns-then-rest-left : goal.returns-then-rest-left
returns-then-rest-left t c =
    through_short c.args.sizes listed (match_of c.args.teams) c.args.left (take c.args.rest (drop c.args.from c.args.queued.now)) (listing c.args.players.now c.args.qualities.now c.args.marks)
    (omega (arith, length-take c.args.rest (drop c.args.from c.args.queued.now), c.if-rest-left.true))

pub offset_bounds-queued-from : goal.offset_bounds-queued-from
offset_bounds-queued-from t c = omega (arith, c.requires)

pub bounds-queued-from : goal.bounds-queued-from
bounds-queued-from t c = omega (arith, c.requires)

pub combinations-mid-requires : goal.combinations-mid-requires
combinations-mid-requires t c =
    let h = c.if-left-eq0.false in
    let i = c.if-rest-left.false in
    let e = ap (λ (m : MatchState). length (seated m)) c.seat-with.ensures ∙ seat_more c.args.sizes (match_of c.args.teams) _ c.requires.a_bound.0 c.requires.a_bound.1.0 (omega (arith, h, c.requires.a_bound)) in
    let f = ways_room c.args.rest c.args.left (seats_of c.args.sizes) h i in
    let g = ways_step c.args.rest c.args.left h i in
    (omega (arith, c.requires, h, i), ((c.requires.a_bound.0, (c.requires.a_bound.1.0, (omega (arith, c.requires.a_bound, h, i), omega (arith, e, c.requires.a_bound, h)))), (c.requires.queued_len, (omega (arith, f, c.requires.sizes_in_bounds), omega (arith, g, c.requires.left_in_bounds)))))

pub overflow_add-from-2 : goal.overflow_add-from-2
overflow_add-from-2 t c = omega (arith, c.requires)

pub overflow_sub-rest-2 : goal.overflow_sub-rest-2
overflow_sub-rest-2 t c = omega (arith, c.requires, c.if-left-eq0.false, c.if-rest-left.false)

pub combinations-requires : goal.combinations-requires
combinations-requires t c =
    let w : length c.args.queued.now ≡ 64 = c.requires.queued_len in
    let h = c.if-left-eq0.false in
    let i = c.if-rest-left.false in
    let v = c.seat-with in
    let k = c.combinations-mid in
    let e = ap (λ (m : MatchState). length (seated m)) v.ensures ∙ seat_more c.args.sizes (match_of c.args.teams) _ c.requires.a_bound.0 c.requires.a_bound.1.0 (omega (arith, h, c.requires.a_bound)) in
    let f = ways_room c.args.rest c.args.left (seats_of c.args.sizes) h i in
    let g = ways_step c.args.rest c.args.left h i in
    let r : c.args.from + 1 + (c.args.rest - 1) ≤ length c.args.queued.now = omega (arith, w, h, i, c.requires.a_bound) in
    let m = ap (λ (l : Listing). l.at) k.ensures ∙ all_at c.args.sizes _ _ c.args.queued.now (c.args.from + 1) (c.args.rest - 1) (listing c.args.players.now c.args.qualities.now c.args.marks) c.requires.a_bound.0 c.requires.a_bound.1.0 (omega (arith, e, h, c.requires.a_bound)) r in
    let d = ap (λ (l : Listing). l.done) k.ensures ∙ all_done c.args.sizes _ _ c.args.queued.now (c.args.from + 1) (c.args.rest - 1) (listing c.args.players.now c.args.qualities.now c.args.marks) r in
    (omega (arith, c.requires, h, i), ((c.requires.a_bound.0, (c.requires.a_bound.1.0, (omega (arith, c.requires.a_bound, h, i), omega (arith, e, c.requires.a_bound, h)))), (w, (omega (arith, f, m, c.requires.sizes_in_bounds, k.auto), omega (arith, g, d, c.requires.left_in_bounds, k.auto)))))

pub returns : goal.returns
returns t c =
    let w : length c.args.queued.now ≡ 64 = c.requires.queued_len in
    two_calls c.args.sizes listed c.args.queued.now c.args.from c.args.rest c.args.left (match_of c.args.teams) (listing c.args.players.now c.args.qualities.now c.args.marks) c.if-left-eq0.false c.if-rest-left.false (omega (arith, w, c.requires.a_bound)) c.seat-with.ensures c.combinations-mid.ensures c.combinations.ensures
