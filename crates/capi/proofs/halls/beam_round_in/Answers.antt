-- 13, the hall over its limits, or what the beam round found, and those who stay.
use borrow.Author.Rules.{rules}
use mathlib.Core.Path.{◌≡◌, refl}
use lib.ListN.{length}
use Rattle.base.proofs.Arrays.{unmapped}
use Rattle.roster.specs.Roster.{of_deviations}
use Rattle.hall.specs.Rounds.{beam}
use Rattle.capi.proofs.HallRounds.{game_away, game_told}
use Rattle.capi.proofs.halls.beam_round_in.Goals as goal

pub returns-then-refusal-ne0 : goal.returns-then-refusal-ne0
returns-then-refusal-ne0 c =
    let a = c.args in
    let m = beam a.search.width a.objective (of_deviations a.ids.now a.ratings.now a.deviations.now) in
    game_away a.out.now a.game m a.clock a.players.now a.qualities.now c.is_over.ensures c.round_answer-refusal.result c.round_answer-refusal.ensures c.if-refusal-ne0.true

pub returns : goal.returns
returns c =
    let held : length c.places_of-bookings.result ≡ 64 = search (unmapped, rules) in
    let places : length c.args.out.now.bookings ≡ 64 = rw c.places_of-bookings.ensures at held in
    let found = rw c.places_of-bookings.ensures at c.beam_handed-handed.ensures in
    let stay = rw c.places_of-bookings.ensures at c.without_seated-staying.ensures in
    let a = c.args in
    let m = beam a.search.width a.objective (of_deviations a.ids.now a.ratings.now a.deviations.now) in
    game_told a.out.now a.game m a.clock a.players.now a.qualities.now c.is_over.ensures c.round_answer-refusal.result c.round_answer-refusal.ensures c.if-refusal-ne0.false places c.sizes_of.ensures c.beam_handed-handed.result found _ stay refl refl refl
