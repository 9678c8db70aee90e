-- One law for each refusal, one for too few entries, and one for the matches written.
use Prim.Native.Nat.{ℕ, ◌*◌, ◌≤◌}
use mathlib.Core.Path.{◌≡◌, sym, ap, ◌∙◌}
use mathlib.Core.List.{map}
use native.Mathlib.Omega.{arith}
use lib.ListN.{length, take, length-take}
use lib.Seq.{length-take-le}
use Rattle.std.specs.Prelude.{Err, Result}
use Rattle.base.specs.declared.Refusal.{Refusal}
use Rattle.base.proofs.Arrays.{unmapped}
use Rattle.queue.specs.Queue.{queue_of}
use Rattle.roster.specs.Roster.{of_ratings}
use Rattle.base.proofs.All.{all_below}
use Rattle.ranking.proofs.Turning.{has_risen}
use Rattle.seating.specs.Seating.{seats_of, leaving}
use Rattle.seating.proofs.Checked.{passed_check}
use Rattle.candidate.specs.Nearest.{rating_for}
use Rattle.candidate.specs.Steps.{how_many}
use Rattle.candidate.proofs.Laws.{passed_roster, order_refused, order_given, seated_row, many_fit, nearest_refused, nearest_seatless, nearest_few, nearest_unranked, nearest_given}
use borrow.Author.Rules.{rules}
use Rattle.candidate.proofs.nearest.GreedyNearestGenerator.generate_candidates.Goals as goal

pub returns-in_err-check : goal.returns-in_err-check
returns-in_err-check c =
    let a = c.args in
    let r = of_ratings a.ids.now a.ratings.now in
    let f : c.from_residual.result ≡ Err c.in_err-check.field-0.0 = search rules in
    ap (λ (k : Result ℕ Refusal). leaving k a.players.now a.qualities.now) f
    ∙ nearest_refused a.self.max a.sizes r (queue_of a.queue) (record { players = a.players.now; qualities = a.qualities.now }) _ c.check.ensures c.in_err-check.was

pub overflow_add-seats : goal.overflow_add-seats
overflow_add-seats c =
    let a = c.args in
    let r = of_ratings a.ids.now a.ratings.now in
    let h = passed_check a.sizes r (queue_of a.queue) (length a.players.now) (length a.qualities.now) _ c.in_ok-check.was c.check.ensures in
    omega (arith, h.a, h.b)

pub returns-then-seats-eq0 : goal.returns-then-seats-eq0
returns-then-seats-eq0 c =
    let a = c.args in
    let r = of_ratings a.ids.now a.ratings.now in
    nearest_seatless a.self.max a.sizes r (queue_of a.queue) (record { players = a.players.now; qualities = a.qualities.now }) _ c.check.ensures c.in_ok-check.was c.if-seats-eq0.true

pub returns-then-queue-seats : goal.returns-then-queue-seats
returns-then-queue-seats c =
    let a = c.args in
    let r = of_ratings a.ids.now a.ratings.now in
    let h = passed_check a.sizes r (queue_of a.queue) (length a.players.now) (length a.qualities.now) _ c.in_ok-check.was c.check.ensures in
    let b = c.well_formed in
    let w : length a.queue.entries ≡ 64 = search (unmapped, rules) in
    let l : length (take a.queue.len a.queue.entries) ≡ a.queue.len = length-take-le a.queue.len a.queue.entries (omega (arith, h.queue)) in
    nearest_few a.self.max a.sizes r (queue_of a.queue) (record { players = a.players.now; qualities = a.qualities.now }) _ c.check.ensures c.in_ok-check.was c.if-seats-eq0.false (omega (arith, l, c.if-queue-seats.true))

pub by_rating-requires : goal.by_rating-requires
by_rating-requires c =
    let a = c.args in
    let r = of_ratings a.ids.now a.ratings.now in
    let h = passed_check a.sizes r (queue_of a.queue) (length a.players.now) (length a.qualities.now) _ c.in_ok-check.was c.check.ensures in
    (simp length-take (omega (arith, h.queue)), passed_roster a.sizes r (queue_of a.queue) (length a.players.now) (length a.qualities.now) _ c.in_ok-check.was c.check.ensures)

pub returns-in_err-order : goal.returns-in_err-order
returns-in_err-order c =
    let a = c.args in
    let r = of_ratings a.ids.now a.ratings.now in
    let h = passed_check a.sizes r (queue_of a.queue) (length a.players.now) (length a.qualities.now) _ c.in_ok-check.was c.check.ensures in
    let b = c.well_formed in
    let w : length a.queue.entries ≡ 64 = search (unmapped, rules) in
    let l : length (take a.queue.len a.queue.entries) ≡ a.queue.len = length-take-le a.queue.len a.queue.entries (omega (arith, h.queue)) in
    let f : c.from_residual-in_err-order.result ≡ Err c.in_err-order.field-0.0 = search rules in
    ap (λ (k : Result ℕ Refusal). leaving k a.players.now a.qualities.now) f
    ∙ nearest_unranked a.self.max a.sizes r (queue_of a.queue) (record { players = a.players.now; qualities = a.qualities.now }) _ c.check.ensures c.in_ok-check.was c.if-seats-eq0.false (omega (arith, l, c.if-queue-seats.false))
    (order_refused r a.queue.entries a.queue.len c.by_rating.result c.players-waiting.ensures c.by_rating.ensures c.in_err-order.was)

pub matches_of-count-requires : goal.matches_of-count-requires
matches_of-count-requires c = let z = c.if-seats-eq0.false in omega arith

pub write_matches-requires : goal.write_matches-requires
write_matches-requires c =
    let a = c.args in
    let r = of_ratings a.ids.now a.ratings.now in
    let h = passed_check a.sizes r (queue_of a.queue) (length a.players.now) (length a.qualities.now) _ c.in_ok-check.was c.check.ensures in
    let b = c.well_formed in
    let w : length a.queue.entries ≡ 64 = search (unmapped, rules) in
    let l : length (take a.queue.len a.queue.entries) ≡ a.queue.len = length-take-le a.queue.len a.queue.entries (omega (arith, h.queue)) in
    let f : c.matches_of-count.result * seats_of a.sizes ≤ a.queue.len = rw c.matches_of-count.ensures (many_fit a.sizes a.self.max a.queue.len) in
    let o = c.in_ok-order.order in
    let g = has_risen (map (rating_for r) (take a.queue.len a.queue.entries)) (order_given r a.queue.entries a.queue.len _ c.players-waiting.ensures c.by_rating.ensures c.in_ok-order.was) in
    let t = seated_row r a.queue.entries a.queue.len (c.matches_of-count.result * seats_of a.sizes) o.len o.places (omega (arith, h.queue)) f c.players-waiting.ensures g.1 in
    record { seats_bound = (omega (arith, f, h.queue), h.players_fit); all = all_below a.queue.len 64 h.queue (take (c.matches_of-count.result * seats_of a.sizes) o.places) t.0 }

pub returns : goal.returns
returns c =
    let a = c.args in
    let r = of_ratings a.ids.now a.ratings.now in
    let h = passed_check a.sizes r (queue_of a.queue) (length a.players.now) (length a.qualities.now) _ c.in_ok-check.was c.check.ensures in
    let b = c.well_formed in
    let w : length a.queue.entries ≡ 64 = search (unmapped, rules) in
    let l : length (take a.queue.len a.queue.entries) ≡ a.queue.len = length-take-le a.queue.len a.queue.entries (omega (arith, h.queue)) in
    let e = c.matches_of-count.ensures in
    let m = many_fit a.sizes a.self.max a.queue.len in
    let f : c.matches_of-count.result * seats_of a.sizes ≤ a.queue.len = rw e m in
    let o = c.in_ok-order.order in
    let g = has_risen (map (rating_for r) (take a.queue.len a.queue.entries)) (order_given r a.queue.entries a.queue.len _ c.players-waiting.ensures c.by_rating.ensures c.in_ok-order.was) in
    let t = seated_row r a.queue.entries a.queue.len (c.matches_of-count.result * seats_of a.sizes) o.len o.places (omega (arith, h.queue)) f c.players-waiting.ensures g.1 in
    let c2 = e ∙ ap (how_many (seats_of a.sizes) a.self.max) (sym l) in
    nearest_given a.self.max a.sizes r (queue_of a.queue) (record { players = a.players.now; qualities = a.qualities.now }) _ c.check.ensures c.in_ok-check.was c.if-seats-eq0.false (omega (arith, l, c.if-queue-seats.false)) g.0 c2 t.1 (omega (arith, l, h.queue)) h.players_fit h.qualities_fit c.write_matches.ensures c.write_qualities.ensures
