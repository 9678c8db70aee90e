-- Each player in turn takes the first of the last two seats; where all choices with that player are idle they are only counted.
use Prim.Native.Nat.{ℕ, ◌+◌, ◌-◌, ◌≤◌, ◌<◌}
use mathlib.Core.Path.{◌≡◌, refl, ap, ◌∙◌}
use mathlib.Core.Bool.{false}
use native.Mathlib.Omega.{arith}
use lib.ListN.{length, get_or, length-append}
use Rattle.matchmaker.specs.Quality.{MatchState, match_of, seated}
use Rattle.seating.specs.Seating.{seats_of}
use Rattle.candidate.specs.Walks.{seated_next}
use Rattle.candidate.proofs.Walking.{ways_short, ways_step, seat_more}
use Rattle.choice.specs.Full.{terms}
use Rattle.choice.specs.Reading.{Columns, columns}
use Rattle.choice.specs.Steps.{SoFar, so_far_of, weighed}
use Rattle.choice.proofs.Lasting.{ways_one, walk_next}
use Rattle.choice.proofs.Idle.{short_by_two, two_idle}
use Rattle.choice.proofs.Onward.{counts_with, next_sums, next_tally, onward_end}
use Rattle.choice.proofs.seat_two.Goals as goal

pub is_a_short_by_two-second-requires : goal.is_a_short_by_two-second-requires
is_a_short_by_two-second-requires c =
    let m = match_of c.args.teams in
    omega (arith, c.requires.a_bound, length-append m.a.players m.b.players)

pub are_idle-requires : goal.are_idle-requires
are_idle-requires c = (c.requires.a_bound.0, (c.requires.a_bound.1.0, omega (arith, c.requires.a_bound)))

pub skip_all-out-requires : goal.skip_all-out-requires
skip_all-out-requires c =
    let l = c.loop-behind in
    let k : 2 ≤ l.behind = omega arith in
    let z : ◌≡◌ {A = ℕ} 2 0 → ⊥ = λ n. omega arith in
    omega (arith, ways_step l.behind 2 z k, ways_one (l.behind - 1), l.invariant.0, c.requires.rest_bound)

pub loop-behind-preserved-then-are_idle : goal.loop-behind-preserved-then-are_idle
loop-behind-preserved-then-are_idle c =
    let l = c.loop-behind in
    let at = c.args.from + c.args.rest - 1 - (l.behind - 1) in
    let here : c.args.from + c.args.rest - l.behind ≡ at = omega arith in
    let next : c.args.from + c.args.rest - (l.behind - 1) ≡ at + 1 = omega arith in
    let x : Columns = (columns c.args.queued.now c.args.rows.now c.args.rated.now c.args.admits.now c.args.counts.now c.args.same.now c.args.expected.now c.args.foes.now) in
    let m = match_of c.args.teams in
    let p = get_or x.queued at 0 in
    let two : 2 ≤ l.behind = omega arith in
    let z : ◌≡◌ {A = ℕ} 2 0 → ⊥ = λ n. omega arith in
    let near : at < c.args.from + c.args.rest = omega (arith, two) in
    let there : at < length x.queued = omega (arith, near, c.requires.a_bound, c.requires.queued_len) in
    let room : length (seated m) < seats_of c.args.sizes = omega (arith, c.requires.a_bound) in
    let e : length (seated (seated_next c.args.sizes m p)) + 1 ≡ seats_of c.args.sizes = omega (arith, seat_more c.args.sizes m p c.requires.a_bound.0 c.requires.a_bound.1.0 room, c.requires.a_bound) in
    let g = c.is_a_short_by_two-second.ensures ∙ short_by_two c.args.sizes m p c.requires.a_bound.0 in
    let d = ap (λ (b : SoFar). b.tried) c.skip_all-out.ensures in
    rw next (
      omega (arith, ways_step l.behind 2 z two, ways_one (l.behind - 1), d, l.invariant.0),
      λ r k on es h stands fills counts.
          let f = next_sums r k on es x c.args.bounds stands c.args.sizes c.requires.a_bound.0 c.requires.a_bound.1.0 m c.args.sums c.args.tally at fills counts room (omega (arith, near, h)) there c.is_a_short-first.ensures refl c.sums_with-next.ensures in
          let y = two_idle r k on es x c.args.bounds stands c.args.objectives c.args.count c.args.sizes c.requires.a_bound.0 c.requires.a_bound.1.0 (seated_next c.args.sizes m p) c.sums_with-next.result c.is_a_short_by_two-second.result l.out.found l.out.many l.out.nan (record { teams = match_of l.out.teams; score = l.out.score }) (at + 1) (l.behind - 1) l.out.tried f e g (omega (arith, two, h)) (omega (arith, two, c.requires.a_bound, c.requires.queued_len)) c.are_idle.ensures c.if-are_idle.true in
          walk_next c.args.sizes (weighed (terms r k on c.args.objectives c.args.count) es) x.queued m 2 at l.behind (so_far_of l.out) ((rw here at l.invariant.1) r k on es h stands fills counts) (l.behind - 1) (omega arith) z two (omega (arith, c.requires.a_bound, c.requires.queued_len)) refl (c.skip_all-out.ensures ∙ y),
    )

pub tally_with-grown-requires : goal.tally_with-grown-requires
tally_with-grown-requires c =
    let l = c.loop-behind in
    let at = c.args.from + c.args.rest - 1 - (l.behind - 1) in
    (omega (arith, c.requires.a_bound), omega (arith, c.requires.one_each_bound.0, c.requires.one_each_bound.1 at))

pub seat_last-out-requires : goal.seat_last-out-requires
seat_last-out-requires c =
    let l = c.loop-behind in
    let at = c.args.from + c.args.rest - 1 - (l.behind - 1) in
    let m = match_of c.args.teams in
    let two : 2 ≤ l.behind = omega arith in
    let z : ◌≡◌ {A = ℕ} 2 0 → ⊥ = λ n. omega arith in
    let w = ways_step l.behind 2 z two in
    let room : length (seated m) < seats_of c.args.sizes = omega (arith, c.requires.a_bound) in
    let e = ap (λ (y : MatchState). length (seated y)) c.seat-with.ensures ∙ seat_more c.args.sizes m (get_or c.args.queued.now at 0) c.requires.a_bound.0 c.requires.a_bound.1.0 room in
    let f = counts_with c.args.tally c.is_a_short-first.result (get_or c.args.admits.now at false) (get_or c.args.counts.now at 0) (get_or c.args.same.now at 0) (get_or c.args.expected.now at 0) (get_or c.args.foes.now at 0) c.tally_with-grown.ensures in
    record { a_bound = (c.requires.a_bound.0, (c.requires.a_bound.1.0, (omega (arith, c.requires.a_bound, two), omega (arith, e, c.requires.a_bound)))); queued_len = c.requires.queued_len; rest_bound = omega (arith, w, l.invariant.0, c.requires.rest_bound); one_each_bound = (omega (arith, f, c.requires.one_each_bound.0, c.requires.one_each_bound.1 at), c.requires.one_each_bound.1) }

pub loop-behind-preserved : goal.loop-behind-preserved
loop-behind-preserved c =
    let l = c.loop-behind in
    let at = c.args.from + c.args.rest - 1 - (l.behind - 1) in
    let here : c.args.from + c.args.rest - l.behind ≡ at = omega arith in
    let next : c.args.from + c.args.rest - (l.behind - 1) ≡ at + 1 = omega arith in
    let x : Columns = (columns c.args.queued.now c.args.rows.now c.args.rated.now c.args.admits.now c.args.counts.now c.args.same.now c.args.expected.now c.args.foes.now) in
    let m = match_of c.args.teams in
    let two : 2 ≤ l.behind = omega arith in
    let z : ◌≡◌ {A = ℕ} 2 0 → ⊥ = λ n. omega arith in
    let near : at < c.args.from + c.args.rest = omega (arith, two) in
    let there : at < length x.queued = omega (arith, near, c.requires.a_bound, c.requires.queued_len) in
    let room : length (seated m) < seats_of c.args.sizes = omega (arith, c.requires.a_bound) in
    rw next (
      omega (arith, ways_step l.behind 2 z two, c.seat_last-out.ensures.0, l.invariant.0),
      λ r k on es h stands fills counts.
          let o : at < length es = omega (arith, near, h) in
          let f = next_sums r k on es x c.args.bounds stands c.args.sizes c.requires.a_bound.0 c.requires.a_bound.1.0 m c.args.sums c.args.tally at fills counts room o there c.is_a_short-first.ensures c.seat-with.ensures c.sums_with-next.ensures in
          let g = next_tally r k on es x c.args.bounds stands c.args.sizes c.requires.a_bound.0 c.requires.a_bound.1.0 m c.args.sums c.args.tally at fills counts room o there c.is_a_short-first.ensures c.seat-with.ensures c.tally_with-grown.ensures in
          walk_next c.args.sizes (weighed (terms r k on c.args.objectives c.args.count) es) x.queued m 2 at l.behind (so_far_of l.out) ((rw here at l.invariant.1) r k on es h stands fills counts) (l.behind - 1) (omega arith) z two (omega (arith, c.requires.a_bound, c.requires.queued_len)) c.seat-with.ensures (c.seat_last-out.ensures.1 r k on es (omega (arith, two, h)) stands f g),
    )

pub returns : goal.returns
returns c =
    let l = c.loop-behind in
    let few : l.behind < 2 = omega arith in
    (omega (arith, l.invariant.0, ways_short l.behind 2 few), onward_end c.args.sizes (columns c.args.queued.now c.args.rows.now c.args.rated.now c.args.admits.now c.args.counts.now c.args.same.now c.args.expected.now c.args.foes.now) c.args.bounds c.args.from c.args.rest 2 (match_of c.args.teams) c.args.sums c.args.tally c.args.objectives c.args.count (so_far_of c.args.best) (c.args.from + c.args.rest - l.behind) l.behind (so_far_of l.out) l.invariant.1 few)
