-- One law for each of its returns.
use Prim.Native.Nat.{ℕ, ◌+◌, ◌≤◌}
use mathlib.Core.Path.{◌≡◌, refl, sym, ap, ◌∙◌}
use mathlib.Core.List.{List, [], ◌∷◌, ◌++◌}
use native.Mathlib.Omega.{arith}
use borrow.Author.Tests.{lt-ltb, le-ltb}
use lib.ListN.{length, take, replicate, length-map, length-append}
use lib.Seq.{length-take-le}
use Rattle.std.specs.Prelude.{Err}
use Rattle.base.specs.Refusals.{outcome_of}
use Rattle.base.specs.Lists.{any}
use Rattle.base.proofs.Arrays.{unmapped}
use Rattle.queue.specs.Time as time
use Rattle.queue.specs.Queue.{queue_of}
use Rattle.queue.specs.declared.QueueEntry.{QueueEntry}
use Rattle.queue.specs.declared.Columns.{Columns}
use Rattle.roster.specs.Roster.{of_deviations, row_of}
use Rattle.roster.proofs.Laws.{passed_even, even_first, found_laid}
use Rattle.matchmaker.specs.Quality.{match_of}
use Rattle.matchmaker.proofs.Rows.{seats_fit, rows_all, rows_first, rows_second}
use Rattle.objective.specs.Steps.{column_wait}
use Rattle.objective.proofs.Laws.{score_overfull, score_long, score_roster, score_clock, score_joined, score_given_lem}
use Rattle.objective.proofs.Rows.{over_by_column, waits_by_columns, longest_known, score_of_rows}
use borrow.Author.Rules.{rules}
use Rattle.objective.proofs.score.MatchObjective.score.Goals as goal

pub returns-then-is_overfull : goal.returns-then-is_overfull
returns-then-is_overfull c =
    let a = c.args in
    score_overfull a.self (of_deviations a.ids.now a.ratings.now a.deviations.now) (queue_of a.queue) a.clock (match_of a.proposed)
    (sym c.is_overfull.ensures ∙ c.if-is_overfull.true)

pub returns-then-queue-gt64 : goal.returns-then-queue-gt64
returns-then-queue-gt64 c =
    let a = c.args in
    let r = of_deviations a.ids.now a.ratings.now a.deviations.now in
    let m = match_of a.proposed in
    let seated-fit = sym c.is_overfull.ensures ∙ c.if-is_overfull.false in
    score_long a.self r (queue_of a.queue) a.clock m seated-fit (lt-ltb _ _ c.if-queue-gt64.true)

pub slice_bounds-players-end : goal.slice_bounds-players-end
slice_bounds-players-end c =
    let eight_in_a : length c.args.proposed.a.players ≡ 8 = search (unmapped, rules) in
    let eight_in_b : length c.args.proposed.b.players ≡ 8 = search (unmapped, rules) in
    let m = c.args.proposed in
    let u : length c.seated_players-everyone.result ≡ 16 = search (unmapped, rules) in
    let fit = seats_fit m.a.players m.b.players m.a.len m.b.len eight_in_a eight_in_b refl c.seats.ensures in
    sym (length-take-le c.seats.result c.seated_players-everyone.result (omega arith))

pub returns-in_err-checked_rows : goal.returns-in_err-checked_rows
returns-in_err-checked_rows c =
    let a = c.args in
    let r = of_deviations a.ids.now a.ratings.now a.deviations.now in
    let m = match_of a.proposed in
    let seated-fit = sym c.is_overfull.ensures ∙ c.if-is_overfull.false in
    let x : c.from_residual.result ≡ Err c.in_err-checked_rows.field-0.0 = search rules in
    ap outcome_of x ∙ score_roster a.self r (queue_of a.queue) a.clock m seated-fit (le-ltb _ _ c.if-queue-gt64.false) _ c.checked_rows.ensures.result_value c.in_err-checked_rows.was

pub returns-then-is_over : goal.returns-then-is_over
returns-then-is_over c =
    let a = c.args in
    let r = of_deviations a.ids.now a.ratings.now a.deviations.now in
    let m = match_of a.proposed in
    let seated-fit = sym c.is_overfull.ensures ∙ c.if-is_overfull.false in
    score_clock a.self r (queue_of a.queue) a.clock m seated-fit (le-ltb _ _ c.if-queue-gt64.false) _ c.checked_rows.ensures.result_value c.in_ok-checked_rows.was (sym c.is_over.ensures ∙ c.if-is_over.true)

pub slice_bounds-joined-end : goal.slice_bounds-joined-end
slice_bounds-joined-end c =
    let places : length c.args.queue.entries ≡ 64 = search (unmapped, rules) in
    let q = c.args.queue in
    let l = places in
    let w : length c.columns-columns.result.joined ≡ 64 = ap (λ (k : Columns). length k.joined) c.columns-columns.ensures ∙ length-map q.entries (λ (e : QueueEntry). e.joined) ∙ l in
    let short = c.if-queue-gt64.false in
    let fits : q.len ≤ length c.columns-columns.result.joined = omega arith in
    sym (length-take-le q.len c.columns-columns.result.joined fits)

pub returns-then-any_over : goal.returns-then-any_over
returns-then-any_over c =
    let a = c.args in
    let r = of_deviations a.ids.now a.ratings.now a.deviations.now in
    let m = match_of a.proposed in
    let seated-fit = sym c.is_overfull.ensures ∙ c.if-is_overfull.false in
    let joined-over = c.any_over.ensures ∙ ap (λ (k : Columns). any time.time_over (take a.queue.len k.joined)) c.columns-columns.ensures ∙ over_by_column a.queue.entries a.queue.len in
    score_joined a.self r (queue_of a.queue) a.clock m seated-fit (le-ltb _ _ c.if-queue-gt64.false) _ c.checked_rows.ensures.result_value c.in_ok-checked_rows.was
    (sym c.is_over.ensures ∙ c.if-is_over.false) (sym joined-over ∙ c.if-any_over.true)

pub slice_bounds-waiting-end : goal.slice_bounds-waiting-end
slice_bounds-waiting-end c =
    let places : length c.args.queue.entries ≡ 64 = search (unmapped, rules) in
    let q = c.args.queue in
    let l = places in
    let w : length c.columns-columns.result.players ≡ 64 = ap (λ (k : Columns). length k.players) c.columns-columns.ensures ∙ length-map q.entries (λ (e : QueueEntry). e.player) ∙ l in
    let short = c.if-queue-gt64.false in
    let fits : q.len ≤ length c.columns-columns.result.players = omega arith in
    sym (length-take-le q.len c.columns-columns.result.players fits)

pub returns : goal.returns
returns c =
    let eight_in_a : length c.args.proposed.a.players ≡ 8 = search (unmapped, rules) in
    let eight_in_b : length c.args.proposed.b.players ≡ 8 = search (unmapped, rules) in
    let a = c.args in
    let r = of_deviations a.ids.now a.ratings.now a.deviations.now in
    let m = match_of a.proposed in
    let seated-fit = sym c.is_overfull.ensures ∙ c.if-is_overfull.false in
    let joined-over = c.any_over.ensures ∙ ap (λ (k : Columns). any time.time_over (take a.queue.len k.joined)) c.columns-columns.ensures ∙ over_by_column a.queue.entries a.queue.len in
    let k = c.checked_rows in
    let passed = c.in_ok-checked_rows.was in
    let even = passed_even a.ids.now (length a.ratings.now ∷ length a.deviations.now ∷ []) [] k.result passed k.ensures.result_value in
    let first = even_first (length a.ids.now) (length a.ratings.now) (length a.deviations.now ∷ []) even in
    let second = even_first (length a.ids.now) (length a.deviations.now) [] first.1 in
    let everyone = ap (λ (n : ℕ). take n c.seated_players-everyone.result) c.seats.ensures ∙ c.seated_players-everyone.ensures.players_value in
    let x = m.a.players in
    let y = m.b.players in
    let sheet : List ℕ = replicate 16 0 in
    let laid = found_laid a.ids.now (x ++ y) sheet k.result everyone passed k.ensures.result_value k.ensures.rows_after in
    let f : ℕ → ℕ = λ p. row_of p a.ids.now in
    let fit = seats_fit a.proposed.a.players a.proposed.b.players a.proposed.a.len a.proposed.b.len eight_in_a eight_in_b refl refl in
    let room : length x + length y ≤ 16 = omega (arith, length-append x y) in
    let waits = ap (λ (k : Columns). column_wait a.clock (take a.queue.len k.players) (take a.queue.len k.joined)) c.columns-columns.ensures ∙ waits_by_columns a.queue.entries a.queue.len a.clock in
    let wait = c.longest_wait-wait.ensures ∙ longest_known everyone waits in
    let s = score_of_rows a.self a.ids.now a.ratings.now a.deviations.now (queue_of a.queue).entries a.clock m first.0 second.0 (rows_first f x y sheet room laid) (rows_second f x y sheet room laid) (rows_all f x y sheet room laid) wait in
    score_given_lem a.self r (queue_of a.queue) a.clock m seated-fit (le-ltb _ _ c.if-queue-gt64.false) _ k.ensures.result_value passed
    (sym c.is_over.ensures ∙ c.if-is_over.false) (sym joined-over ∙ c.if-any_over.false) (c.score_by_rows.ensures ∙ s)
