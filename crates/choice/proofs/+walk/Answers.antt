-- Too few are left, the whole match is weighed, the last two seats are filled, or the choices behind are walked with the first player and
-- then without. What the first call tried is counted by its contract, and the second goes on there.
use Prim.Native.Nat.{◌+◌, ◌-◌, ◌≤◌, ◌<◌}
use mathlib.Core.Path.{sym, ap, ◌∙◌}
use mathlib.Core.Bool.{false}
use native.Mathlib.Omega.{arith}
use lib.ListN.{length, take, drop, get_or, length-take}
use Rattle.matchmaker.specs.Quality.{MatchState, match_of, seated}
use Rattle.seating.specs.Seating.{seats_of}
use Rattle.candidate.proofs.Walking.{ways_none, ways_short, ways_step, seat_more, through_none, through_short, two_calls}
use Rattle.choice.specs.Full.{terms}
use Rattle.choice.specs.Reading.{Columns, columns}
use Rattle.choice.specs.Steps.{SoFar, so_far_of, weighed}
use Rattle.choice.proofs.Stepping.{tried_either}
use Rattle.choice.proofs.Onward.{counts_with, whole_weighed, next_sums, next_tally}
use Rattle.choice.proofs.+walk.Goals as goal

pub returns-then-rest-left : goal.returns-then-rest-left
returns-then-rest-left t c =
    let few = c.if-rest-left.true in
    (omega (arith, ways_short c.args.rest c.args.left few), λ r k on es h stands fills counts. through_short c.args.sizes (weighed (terms r k on c.args.objectives c.args.count) es) (match_of c.args.teams) c.args.left (take c.args.rest (drop c.args.from c.args.queued.now)) (so_far_of c.args.best) (omega (arith, length-take c.args.rest (drop c.args.from c.args.queued.now), few)))

pub score_of-score-requires : goal.score_of-score-requires
score_of-score-requires t c = (c.requires.a_bound.0, c.requires.a_bound.1.0)

pub weigh-requires : goal.weigh-requires
weigh-requires t c =
    let g = rw (c.if-left-eq0.true, ways_none) at c.requires.left_bound in
    omega (arith, g)

pub returns-then-left-eq0 : goal.returns-then-left-eq0
returns-then-left-eq0 t c =
    let x : Columns = (columns c.args.queued.now c.args.rows.now c.args.rated.now c.args.admits.now c.args.counts.now c.args.same.now c.args.expected.now c.args.foes.now) in
    let m = match_of c.args.teams in
    let e = c.if-left-eq0.true in
    let d = ap (λ (b : SoFar). b.tried) c.weigh.ensures ∙ tried_either c.passes.result (so_far_of c.args.best) m c.score_of-score.result in
    rw e (
      rw ways_none d,
      λ r k on es h stands fills counts.
          c.weigh.ensures
          ∙ whole_weighed r k on es x c.args.bounds stands c.args.sizes c.requires.a_bound.0 c.requires.a_bound.1.0 c.args.objectives c.args.count (so_far_of c.args.best) m c.args.sums c.args.tally fills counts (omega (arith, c.requires.a_bound, e)) c.passes.ensures c.score_of-score.ensures
          ∙ sym (through_none c.args.sizes (weighed (terms r k on c.args.objectives c.args.count) es) m (take c.args.rest (drop c.args.from c.args.queued.now)) (so_far_of c.args.best)),
    )

pub seat_two-requires : goal.seat_two-requires
seat_two-requires t c =
    let e = c.if-left-eq2.true in
    let g = rw e at c.requires.left_bound in
    record { a_bound = (c.requires.a_bound.0, (c.requires.a_bound.1.0, (c.requires.a_bound.1.1.0, omega (arith, e, c.requires.a_bound.1.1.1)))); queued_len = c.requires.queued_len; rest_bound = g; one_each_bound = (omega (arith, e, c.requires.one_each_bound.0), c.requires.one_each_bound.1) }

pub returns-then-left-eq2 : goal.returns-then-left-eq2
returns-then-left-eq2 t c = rw c.if-left-eq2.true c.seat_two.ensures

pub offset_bounds-queued-from : goal.offset_bounds-queued-from
offset_bounds-queued-from t c = omega (arith, c.if-rest-left.false, c.if-left-eq0.false, c.requires.a_bound)

pub bounds-queued-from : goal.bounds-queued-from
bounds-queued-from t c = omega (arith, c.if-rest-left.false, c.if-left-eq0.false, c.requires.a_bound)

pub bounds-rows-from : goal.bounds-rows-from
bounds-rows-from t c = omega (arith, c.if-rest-left.false, c.if-left-eq0.false, c.requires.a_bound)

pub offset_bounds-rated-from : goal.offset_bounds-rated-from
offset_bounds-rated-from t c = omega (arith, c.if-rest-left.false, c.if-left-eq0.false, c.requires.a_bound)

pub bounds-rated-from : goal.bounds-rated-from
bounds-rated-from t c = omega (arith, c.if-rest-left.false, c.if-left-eq0.false, c.requires.a_bound)

pub tally_with-grown-requires : goal.tally_with-grown-requires
tally_with-grown-requires t c =
    (omega (arith, c.if-rest-left.false, c.if-left-eq0.false, c.requires.a_bound), omega (arith, c.if-left-eq0.false, c.requires.one_each_bound.0, c.requires.one_each_bound.1 c.args.from))

pub overflow_add-from : goal.overflow_add-from
overflow_add-from t c = omega (arith, c.if-rest-left.false, c.if-left-eq0.false, c.requires.a_bound)

pub overflow_sub-rest : goal.overflow_sub-rest
overflow_sub-rest t c = omega (arith, c.if-rest-left.false, c.if-left-eq0.false, c.requires.a_bound)

pub overflow_sub-left : goal.overflow_sub-left
overflow_sub-left t c = omega (arith, c.if-rest-left.false, c.if-left-eq0.false, c.requires.a_bound)

pub walk-mid-requires : goal.walk-mid-requires
walk-mid-requires t c =
    let m = match_of c.args.teams in
    let z = c.if-left-eq0.false in
    let k : c.args.left ≤ c.args.rest = omega (arith, c.if-rest-left.false) in
    let room : length (seated m) < seats_of c.args.sizes = omega (arith, z, c.requires.a_bound) in
    let e = ap (λ (y : MatchState). length (seated y)) c.seat-with.ensures ∙ seat_more c.args.sizes m (get_or c.args.queued.now c.args.from 0) c.requires.a_bound.0 c.requires.a_bound.1.0 room in
    let g = ways_step c.args.rest c.args.left z k in
    let f = counts_with c.args.tally c.is_a_short-first.result (get_or c.args.admits.now c.args.from false) (get_or c.args.counts.now c.args.from 0) (get_or c.args.same.now c.args.from 0) (get_or c.args.expected.now c.args.from 0) (get_or c.args.foes.now c.args.from 0) c.tally_with-grown.ensures in
    (omega (arith, c.requires.a_bound, k, z), ((c.requires.a_bound.0, (c.requires.a_bound.1.0, (omega (arith, c.requires.a_bound, k, z), omega (arith, e, c.requires.a_bound, z)))), (c.requires.queued_len, (omega (arith, g, c.requires.left_bound), (omega (arith, f, z, c.requires.one_each_bound.0, c.requires.one_each_bound.1 c.args.from), c.requires.one_each_bound.1)))))

pub returns-then-rest-left-2 : goal.returns-then-rest-left-2
returns-then-rest-left-2 t c =
    let x : Columns = (columns c.args.queued.now c.args.rows.now c.args.rated.now c.args.admits.now c.args.counts.now c.args.same.now c.args.expected.now c.args.foes.now) in
    let m = match_of c.args.teams in
    let z = c.if-left-eq0.false in
    let l : c.args.left ≤ c.args.rest = omega (arith, c.if-rest-left.false) in
    let there : c.args.from < length x.queued = omega (arith, l, z, c.requires.a_bound, c.requires.queued_len) in
    let room : length (seated m) < seats_of c.args.sizes = omega (arith, z, c.requires.a_bound) in
    let g = ways_step c.args.rest c.args.left z l in
    let e = c.if-rest-left-2.true in
    let short : length (take (c.args.rest - 1) (drop (c.args.from + 1) x.queued)) < c.args.left = omega (arith, e, z, length-take (c.args.rest - 1) (drop (c.args.from + 1) x.queued)) in (
      omega (arith, g, ways_short (c.args.rest - 1) c.args.left (omega (arith, e, z)), c.walk-mid.ensures.0),
      λ r k on es h stands fills counts.
          let o : c.args.from < length es = omega (arith, l, z, h) in
          let a = next_sums r k on es x c.args.bounds stands c.args.sizes c.requires.a_bound.0 c.requires.a_bound.1.0 m c.args.sums c.args.tally c.args.from fills counts room o there c.is_a_short-first.ensures c.seat-with.ensures c.sums_with-next.ensures in
          let b = next_tally r k on es x c.args.bounds stands c.args.sizes c.requires.a_bound.0 c.requires.a_bound.1.0 m c.args.sums c.args.tally c.args.from fills counts room o there c.is_a_short-first.ensures c.seat-with.ensures c.tally_with-grown.ensures in
          two_calls c.args.sizes (weighed (terms r k on c.args.objectives c.args.count) es) x.queued c.args.from c.args.rest c.args.left m (so_far_of c.args.best) z l (omega (arith, c.requires.a_bound, c.requires.queued_len)) c.seat-with.ensures (c.walk-mid.ensures.1 r k on es (omega (arith, l, z, h)) stands a b) (through_short c.args.sizes (weighed (terms r k on c.args.objectives c.args.count) es) m c.args.left _ _ short),
    )

pub overflow_add-from-2 : goal.overflow_add-from-2
overflow_add-from-2 t c = omega (arith, c.if-rest-left.false, c.if-left-eq0.false, c.requires.a_bound)

pub overflow_sub-rest-2 : goal.overflow_sub-rest-2
overflow_sub-rest-2 t c = omega (arith, c.if-rest-left.false, c.if-left-eq0.false, c.requires.a_bound)

pub walk-requires : goal.walk-requires
walk-requires t c =
    let z = c.if-left-eq0.false in
    let k : c.args.left ≤ c.args.rest = omega (arith, c.if-rest-left.false) in
    let g = ways_step c.args.rest c.args.left z k in
    (omega (arith, c.requires.a_bound, k, z), ((c.requires.a_bound.0, (c.requires.a_bound.1.0, (omega (arith, c.requires.a_bound, k, z), c.requires.a_bound.1.1.1))), (c.requires.queued_len, (omega (arith, g, c.walk-mid.ensures.0, c.requires.left_bound), c.requires.one_each_bound))))

pub returns : goal.returns
returns t c =
    let x : Columns = (columns c.args.queued.now c.args.rows.now c.args.rated.now c.args.admits.now c.args.counts.now c.args.same.now c.args.expected.now c.args.foes.now) in
    let m = match_of c.args.teams in
    let z = c.if-left-eq0.false in
    let l : c.args.left ≤ c.args.rest = omega (arith, c.if-rest-left.false) in
    let there : c.args.from < length x.queued = omega (arith, l, z, c.requires.a_bound, c.requires.queued_len) in
    let room : length (seated m) < seats_of c.args.sizes = omega (arith, z, c.requires.a_bound) in
    let g = ways_step c.args.rest c.args.left z l in (
      omega (arith, g, c.walk-mid.ensures.0, c.walk.ensures.0),
      λ r k on es h stands fills counts.
          let o : c.args.from < length es = omega (arith, l, z, h) in
          let a = next_sums r k on es x c.args.bounds stands c.args.sizes c.requires.a_bound.0 c.requires.a_bound.1.0 m c.args.sums c.args.tally c.args.from fills counts room o there c.is_a_short-first.ensures c.seat-with.ensures c.sums_with-next.ensures in
          let b = next_tally r k on es x c.args.bounds stands c.args.sizes c.requires.a_bound.0 c.requires.a_bound.1.0 m c.args.sums c.args.tally c.args.from fills counts room o there c.is_a_short-first.ensures c.seat-with.ensures c.tally_with-grown.ensures in
          two_calls c.args.sizes (weighed (terms r k on c.args.objectives c.args.count) es) x.queued c.args.from c.args.rest c.args.left m (so_far_of c.args.best) z l (omega (arith, c.requires.a_bound, c.requires.queued_len)) c.seat-with.ensures (c.walk-mid.ensures.1 r k on es (omega (arith, l, z, h)) stands a b) (c.walk.ensures.1 r k on es (omega (arith, l, z, h)) stands fills counts),
    )
