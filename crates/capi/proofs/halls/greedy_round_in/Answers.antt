-- 13, the hall over its limits, or what the greedy round found, and those who stay.
use borrow.Author.Rules.{rules}
use mathlib.Core.Path.{◌≡◌, refl}
use lib.ListN.{length}
use Rattle.base.proofs.Arrays.{unmapped}
use Rattle.roster.specs.Roster.{of_ratings}
use Rattle.hall.specs.Rounds.{greedy}
use Rattle.capi.proofs.HallRounds.{game_away, game_told}
use Rattle.capi.proofs.halls.greedy_round_in.Goals as goal

pub returns-then-refusal-ne0 : goal.returns-then-refusal-ne0
returns-then-refusal-ne0 c =
    let a = c.args in
    let m = greedy (of_ratings a.ids.now a.ratings.now) in
    game_away a.out.now a.game m a.clock a.players.now a.qualities.now c.is_over.ensures c.round_answer-refusal.result c.round_answer-refusal.ensures c.if-refusal-ne0.true

pub returns : goal.returns
returns c =
    let held : length c.places_of-bookings.result ≡ 64 = search (unmapped, rules) in
    let places : length c.args.out.now.bookings ≡ 64 = rw c.places_of-bookings.ensures at held in
    let found = rw c.places_of-bookings.ensures at c.greedy_handed-handed.ensures in
    let stay = rw c.places_of-bookings.ensures at c.without_seated-staying.ensures in
    let a = c.args in
    let m = greedy (of_ratings a.ids.now a.ratings.now) in
    game_told a.out.now a.game m a.clock a.players.now a.qualities.now c.is_over.ensures c.round_answer-refusal.result c.round_answer-refusal.ensures c.if-refusal-ne0.false places c.sizes_of.ensures c.greedy_handed-handed.result found _ stay refl refl refl
