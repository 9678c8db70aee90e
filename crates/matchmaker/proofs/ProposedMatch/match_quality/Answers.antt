-- `ProposedMatch::match_quality` meets its contract: one law for each of its returns, and the bound by the rule.
use lib.Seq.{length-take-le}
use Rattle.std.proofs.Common.{◌≡◌, ℕ, ◌+◌, ◌≤◌, [], ◌∷◌, ◌++◌, length, take, replicate, sym, refl, ap, ◌∙◌, arith, length-append, rules}
use Rattle.std.specs.Prelude.{Err}
use Rattle.base.specs.Refusals.{outcome_of}
use Rattle.base.proofs.Arrays.{unmapped}
use Rattle.roster.specs.Roster.{of_ratings, row_of}
use Rattle.roster.proofs.Laws.{passed_even, even_first, found_laid}
use Rattle.matchmaker.specs.Quality.{match_of}
use Rattle.matchmaker.proofs.Bounds.{promised}
use Rattle.matchmaker.proofs.Laws.{over_limit, bad_roster, rated}
use Rattle.matchmaker.proofs.Rows.{seats_fit, rows_first, rows_second, quality_of_rows}
use Rattle.matchmaker.proofs.ProposedMatch.match_quality.Goals as goal

pub returns-then-is_overfull : goal.returns-then-is_overfull
returns-then-is_overfull c =
    let a = c.args in
    let r = of_ratings a.ids.now a.ratings.now in
    let m = match_of a.self in
    promised r m _ (over_limit r m (sym c.is_overfull.ensures ∙ c.if-is_overfull.true))

pub slice_bounds-players-end : goal.slice_bounds-players-end
slice_bounds-players-end c =
    let eight_in_a : length c.args.self.a.players ≡ 8 = search (unmapped, rules) in
    let eight_in_b : length c.args.self.b.players ≡ 8 = search (unmapped, rules) in
    let m = c.args.self in
    let u : length c.seated_players-everyone.result ≡ 16 = search (unmapped, rules) in
    let fit = seats_fit m.a.players m.b.players m.a.len m.b.len eight_in_a eight_in_b refl c.seats.ensures in
    sym (length-take-le c.seats.result c.seated_players-everyone.result (omega arith))

pub returns-in_err-checked_rows : goal.returns-in_err-checked_rows
returns-in_err-checked_rows c =
    let a = c.args in
    let r = of_ratings a.ids.now a.ratings.now in
    let m = match_of a.self in
    let k = c.checked_rows in
    let x : c.from_residual.result ≡ Err c.in_err-checked_rows.field-0.0 = search rules in
    promised r m _ (ap outcome_of x ∙ bad_roster r m (sym c.is_overfull.ensures ∙ c.if-is_overfull.false) _ c.in_err-checked_rows.was k.ensures.result_value)

pub returns : goal.returns
returns c =
    let eight_in_a : length c.args.self.a.players ≡ 8 = search (unmapped, rules) in
    let eight_in_b : length c.args.self.b.players ≡ 8 = search (unmapped, rules) in
    let a = c.args in
    let r = of_ratings a.ids.now a.ratings.now in
    let m = match_of a.self in
    let k = c.checked_rows in
    let passed = c.in_ok-checked_rows.was in
    let even = even_first (length a.ids.now) (length a.ratings.now) [] (passed_even a.ids.now (length a.ratings.now ∷ []) [] k.result passed k.ensures.result_value) in
    let everyone = ap (λ (n : ℕ). take n c.seated_players-everyone.result) c.seats.ensures ∙ c.seated_players-everyone.ensures.players_value in
    let laid = found_laid a.ids.now (m.a.players ++ m.b.players) (replicate 16 0) k.result everyone passed k.ensures.result_value k.ensures.rows_after in
    let f : ℕ → ℕ = λ p. row_of p a.ids.now in
    let x = m.a.players in
    let y = m.b.players in
    let fit = seats_fit a.self.a.players a.self.b.players a.self.a.len a.self.b.len eight_in_a eight_in_b refl refl in
    let room : length x + length y ≤ 16 = omega (arith, length-append x y) in
    let q = c.quality_by_rows.ensures ∙ quality_of_rows a.ids.now a.ratings.now x y even.0 (rows_first f x y (replicate 16 0) room laid) (rows_second f x y (replicate 16 0) room laid) in
    promised r m _ (rated r m (sym c.is_overfull.ensures ∙ c.if-is_overfull.false) _ passed k.ensures.result_value q)
