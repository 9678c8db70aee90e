-- The last seat: a choice that is idle is only counted, each other one is weighed.
use Prim.Native.Nat.{◌+◌, ◌-◌, ◌<◌}
use mathlib.Core.Path.{refl, ap, ◌∙◌}
use mathlib.Core.Bool.{false}
use native.Mathlib.Omega.{arith}
use lib.Ieee.{nan}
use lib.ListN.{length, take, get_or}
use Rattle.matchmaker.specs.Quality.{MatchState, match_of, seated}
use Rattle.seating.specs.Seating.{seats_of}
use Rattle.candidate.specs.Walks.{seated_next}
use Rattle.candidate.proofs.Walking.{seat_more}
use Rattle.choice.specs.Full.{terms}
use Rattle.choice.specs.Reading.{Columns, columns}
use Rattle.choice.specs.Steps.{SoFar, so_far_of, weighed}
use Rattle.choice.specs.Sums.{score_by}
use Rattle.choice.specs.declared.Sums.{Sums}
use Rattle.choice.proofs.Stepping.{tried_either}
use Rattle.choice.proofs.Summing.{grown_read, last_score, idle_skipped}
use Rattle.choice.proofs.Lasting.{ways_one, last_next}
use Rattle.choice.proofs.Onward.{whole_weighed, next_sums, next_tally, onward_end}
use Rattle.choice.proofs.seat_last.Goals as goal
use Rattle.choice.proofs.seat_last.Goals.{then-is_idle, else-is_idle}

pub score_of-score-requires : goal.score_of-score-requires
score_of-score-requires c = (c.requires.a_bound.0, c.requires.a_bound.1.0)

pub skip-out-requires : goal.skip-out-requires
skip-out-requires c =
    omega (arith, c.loop-at.invariant.0, c.requires.rest_bound, ways_one c.args.rest)

pub tally_with-full-requires : goal.tally_with-full-requires
tally_with-full-requires c =
    let l = c.loop-at in
    (omega (arith, c.requires.a_bound), omega (arith, c.requires.one_each_bound.0, c.requires.one_each_bound.1 l.at))

pub weigh-out-requires : goal.weigh-out-requires
weigh-out-requires c =
    omega (arith, c.loop-at.invariant.0, c.requires.rest_bound, ways_one c.args.rest)

pub loop-at-preserved : goal.loop-at-preserved
loop-at-preserved c =
    let l = c.loop-at in
    let x : Columns = (columns c.args.queued.now c.args.rows.now c.args.rated.now c.args.admits.now c.args.counts.now c.args.same.now c.args.expected.now c.args.foes.now) in
    let m = match_of c.args.teams in
    let left = c.args.from + c.args.rest - l.at in
    let near : l.at < c.args.from + c.args.rest = omega arith in
    elim c.if-is_idle.branch [
      | then-is_idle w ↦
          rw w.out-is (
            omega (arith, ap (λ (b : SoFar). b.tried) w.skip-out.ensures, l.invariant.0),
            λ r k on es h stands fills counts.
                let e =
                c.score_of-score.ensures
                ∙ ap (λ (y : Sums). score_by (take c.args.count c.args.objectives) y c.args.sizes.a c.args.sizes.b) c.sums_with-next.ensures
                ∙ last_score r c.args.sizes m c.args.sums (get_or x.queued l.at 0) (take c.args.count c.args.objectives) (get_or x.rows l.at false) c.is_a_short-first.result (get_or x.rated l.at nan) (grown_read (stands.says l.at (omega (arith, near, h)))) fills c.requires.a_bound.0 c.requires.a_bound.1.0 c.requires.a_bound.1.1.1 c.is_a_short-first.ensures in
                let i = idle_skipped (terms r k on c.args.objectives c.args.count) es (seated_next c.args.sizes m (get_or x.queued l.at 0)) l.out.tried l.out.found l.out.many l.out.nan (record { teams = match_of l.out.teams; score = l.out.score }) e c.is_idle.ensures w.if-is_idle.true in
                last_next c.args.sizes (weighed (terms r k on c.args.objectives c.args.count) es) x.queued m l.at left (so_far_of l.out) (l.invariant.1 r k on es h stands fills counts) (c.args.from + c.args.rest - (l.at + 1)) (omega arith) (omega (arith, c.requires.a_bound, c.requires.queued_len)) refl (w.skip-out.ensures ∙ i),
          )
      | else-is_idle w ↦
          let there : l.at < length x.queued = omega (arith, near, c.requires.a_bound, c.requires.queued_len) in
          let room : length (seated m) < seats_of c.args.sizes = omega (arith, c.requires.a_bound) in
          let d = ap (λ (b : SoFar). b.tried) w.weigh-out.ensures ∙ tried_either w.passes-passes.result (so_far_of l.out) (match_of w.seat-with.result) c.score_of-score.result in
          let e = ap (λ (y : MatchState). length (seated y)) w.seat-with.ensures ∙ seat_more c.args.sizes m (get_or x.queued l.at 0) c.requires.a_bound.0 c.requires.a_bound.1.0 room in
          rw w.out-is (
            omega (arith, d, l.invariant.0),
            λ r k on es h stands fills counts.
                let o : l.at < length es = omega (arith, near, h) in
                let f = next_sums r k on es x c.args.bounds stands c.args.sizes c.requires.a_bound.0 c.requires.a_bound.1.0 m c.args.sums c.args.tally l.at fills counts room o there c.is_a_short-first.ensures w.seat-with.ensures c.sums_with-next.ensures in
                let g = next_tally r k on es x c.args.bounds stands c.args.sizes c.requires.a_bound.0 c.requires.a_bound.1.0 m c.args.sums c.args.tally l.at fills counts room o there c.is_a_short-first.ensures w.seat-with.ensures w.tally_with-full.ensures in
                let whole = whole_weighed r k on es x c.args.bounds stands c.args.sizes c.requires.a_bound.0 c.requires.a_bound.1.0 c.args.objectives c.args.count (so_far_of l.out) (match_of w.seat-with.result) c.sums_with-next.result w.tally_with-full.result f g (e ∙ c.requires.a_bound.1.1.1) w.passes-passes.ensures c.score_of-score.ensures in
                last_next c.args.sizes (weighed (terms r k on c.args.objectives c.args.count) es) x.queued m l.at left (so_far_of l.out) (l.invariant.1 r k on es h stands fills counts) (c.args.from + c.args.rest - (l.at + 1)) (omega arith) (omega (arith, c.requires.a_bound, c.requires.queued_len)) w.seat-with.ensures (w.weigh-out.ensures ∙ whole),
          )
    ]

pub returns : goal.returns
returns c =
    let l = c.loop-at in
    let left = c.args.from + c.args.rest - l.at in
    (omega (arith, l.invariant.0, ways_one c.args.rest), onward_end c.args.sizes (columns c.args.queued.now c.args.rows.now c.args.rated.now c.args.admits.now c.args.counts.now c.args.same.now c.args.expected.now c.args.foes.now) c.args.bounds c.args.from c.args.rest 1 (match_of c.args.teams) c.args.sums c.args.tally c.args.objectives c.args.count (so_far_of c.args.best) l.at left (so_far_of l.out) l.invariant.1 (omega arith))
