-- The refusals in their order; else the walk from nobody seated, through the players of the queue.
use Prim.Native.Nat.{◌≤◌}
use mathlib.Core.Path.{◌≡◌, sym, ap, ◌∙◌}
use native.Mathlib.Omega.{arith}
use borrow.Author.Rules.{rules}
use borrow.Author.Tests.{lt-ltb, le-ltb}
use lib.ListN.{length, length-map}
use Rattle.base.proofs.Arrays.{unmapped}
use Rattle.base.proofs.Checks.{by_first, by_second}
use Rattle.queue.specs.Queue.{queue_of}
use Rattle.matchmaker.specs.Quality.{MatchState, seated}
use Rattle.seating.specs.Seating.{sizes_over, seats_of}
use Rattle.seating.proofs.Laws.{sizes_in_lem}
use Rattle.candidate.proofs.Answers.{refuses_1, refuses_4, refuses_6, refuses_3, lists, room_small, wide, not_wide, short_players, short_qualities, not_short, walked}
use Rattle.candidate.proofs.exhaustive.ExhaustiveGenerator.generate_candidates.Goals as goal

pub returns-then-n-gt64 : goal.returns-then-n-gt64
returns-then-n-gt64 c =
    let s = c.args in
    refuses_1 s.sizes (queue_of s.queue) (record { players = s.players.now; qualities = s.qualities.now }) (by_first (sizes_over s.sizes) (lt-ltb 64 s.queue.len c.if-n-gt64.true))

pub returns-then-is_over : goal.returns-then-is_over
returns-then-is_over c =
    let s = c.args in
    refuses_1 s.sizes (queue_of s.queue) (record { players = s.players.now; qualities = s.qualities.now })
    (by_second (sizes_over s.sizes) (le-ltb 64 s.queue.len c.if-n-gt64.false) (sym c.is_over.ensures ∙ c.if-is_over.true))

pub returns-then-has_joined_over : goal.returns-then-has_joined_over
returns-then-has_joined_over c =
    let s = c.args in
    refuses_4 s.sizes (queue_of s.queue) (record { players = s.players.now; qualities = s.qualities.now }) (by_second (sizes_over s.sizes) (le-ltb 64 s.queue.len c.if-n-gt64.false) (sym c.is_over.ensures ∙ c.if-is_over.false)) (sym c.has_joined_over.ensures ∙ c.if-has_joined_over.true)

pub returns-then-n-gt20 : goal.returns-then-n-gt20
returns-then-n-gt20 c =
    let s = c.args in
    let w : length s.queue.entries ≡ 64 = search (unmapped, rules) in
    let f : s.queue.len ≤ length s.queue.entries = omega (arith, w, c.if-n-gt64.false) in
    refuses_6 s.sizes (queue_of s.queue) (record { players = s.players.now; qualities = s.qualities.now }) (by_second (sizes_over s.sizes) (le-ltb 64 s.queue.len c.if-n-gt64.false) (sym c.is_over.ensures ∙ c.if-is_over.false)) (sym c.has_joined_over.ensures ∙ c.if-has_joined_over.false) (wide s.queue.entries s.queue.len f (omega (arith, c.if-n-gt20.true)))

pub overflow_add-seats : goal.overflow_add-seats
overflow_add-seats c =
    let s = c.args in
    omega (arith, sizes_in_lem s.sizes (sym c.is_over.ensures ∙ c.if-is_over.false))

pub overflow_mul-many : goal.overflow_mul-many
overflow_mul-many c =
    let s = c.args in
    let z = sizes_in_lem s.sizes (sym c.is_over.ensures ∙ c.if-is_over.false) in
    omega (arith, room_small s.queue.len (seats_of s.sizes) c.ways-many.ensures c.if-n-gt20.false (omega (arith, z)))

pub returns-then-players-many : goal.returns-then-players-many
returns-then-players-many c =
    let s = c.args in
    let w : length s.queue.entries ≡ 64 = search (unmapped, rules) in
    let f : s.queue.len ≤ length s.queue.entries = omega (arith, w, c.if-n-gt64.false) in
    refuses_3 s.sizes (queue_of s.queue) (record { players = s.players.now; qualities = s.qualities.now }) (by_second (sizes_over s.sizes) (le-ltb 64 s.queue.len c.if-n-gt64.false) (sym c.is_over.ensures ∙ c.if-is_over.false)) (sym c.has_joined_over.ensures ∙ c.if-has_joined_over.false) (not_wide s.queue.entries s.queue.len f c.if-n-gt20.false)
    (short_players s.sizes s.queue.entries s.queue.len f s.players.now s.qualities.now c.ways-many.ensures c.if-players-many.true)

pub returns-then-qualities-many : goal.returns-then-qualities-many
returns-then-qualities-many c =
    let s = c.args in
    let w : length s.queue.entries ≡ 64 = search (unmapped, rules) in
    let f : s.queue.len ≤ length s.queue.entries = omega (arith, w, c.if-n-gt64.false) in
    refuses_3 s.sizes (queue_of s.queue) (record { players = s.players.now; qualities = s.qualities.now }) (by_second (sizes_over s.sizes) (le-ltb 64 s.queue.len c.if-n-gt64.false) (sym c.is_over.ensures ∙ c.if-is_over.false)) (sym c.has_joined_over.ensures ∙ c.if-has_joined_over.false) (not_wide s.queue.entries s.queue.len f c.if-n-gt20.false)
    (short_qualities s.sizes s.queue.entries s.queue.len f s.players.now s.qualities.now c.ways-many.ensures c.if-players-many.false c.if-qualities-many.true)

pub combinations-requires : goal.combinations-requires
combinations-requires c =
    let s = c.args in
    let w : length s.queue.entries ≡ 64 = search (unmapped, rules, c.well_formed.0) in
    let z = sizes_in_lem s.sizes (sym c.is_over.ensures ∙ c.if-is_over.false) in
    let l = ap length c.players-queued.ensures ∙ length-map s.queue.entries _ ∙ w in
    let e = ap (λ (m : MatchState). length (seated m)) c.nobody.ensures in
    let v = c.ways-many.ensures in
    let p = rw v at c.if-players-many.false in
    let q = rw v at c.if-qualities-many.false in
    record { a_bound = (z.0, (z.1, (omega (arith, c.if-n-gt20.false), omega (arith, e)))); queued_len = l; sizes_in_bounds = omega (arith, p); left_in_bounds = omega (arith, q) }

pub returns : goal.returns
returns c =
    let s = c.args in
    let w : length s.queue.entries ≡ 64 = search (unmapped, rules, c.well_formed.0) in
    let f : s.queue.len ≤ length s.queue.entries = omega (arith, w, c.if-n-gt64.false) in
    let v = c.ways-many.ensures in
    let p = c.if-players-many.false in
    let q = c.if-qualities-many.false in
    lists s.sizes (queue_of s.queue) (record { players = s.players.now; qualities = s.qualities.now }) (by_second (sizes_over s.sizes) (le-ltb 64 s.queue.len c.if-n-gt64.false) (sym c.is_over.ensures ∙ c.if-is_over.false)) (sym c.has_joined_over.ensures ∙ c.if-has_joined_over.false) (not_wide s.queue.entries s.queue.len f c.if-n-gt20.false)
    (not_short s.sizes s.queue.entries s.queue.len f s.players.now s.qualities.now v p q)
    (walked s.sizes s.queue.entries s.queue.len f s.players.now s.qualities.now v p q (sizes_in_lem s.sizes (sym c.is_over.ensures ∙ c.if-is_over.false)) c.nobody.ensures c.players-queued.ensures c.combinations.ensures)
