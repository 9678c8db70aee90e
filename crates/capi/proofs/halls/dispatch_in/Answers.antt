-- The hall over its limits, or what the greedy round of the next game found, those who stay, and that game.
use borrow.Author.Rules.{rules}
use mathlib.Core.Path.{◌≡◌, refl}
use lib.ListN.{length}
use Rattle.base.proofs.Arrays.{unmapped}
use Rattle.roster.specs.Roster.{of_ratings}
use Rattle.capi.proofs.HallRounds.{dispatch_away, dispatch_told}
use Rattle.capi.proofs.halls.dispatch_in.Goals as goal

pub returns-then-is_over : goal.returns-then-is_over
returns-then-is_over c =
    let a = c.args in
    dispatch_away a.out.now (of_ratings a.ids.now a.ratings.now) a.clock a.players.now a.qualities.now (rw c.games_of-sizes.ensures at c.is_over.ensures) c.if-is_over.true

pub returns : goal.returns
returns c =
    let held : length c.places_of-bookings.result ≡ 64 = search (unmapped, rules) in
    let places : length c.args.out.now.bookings ≡ 64 = rw c.places_of-bookings.ensures at held in
    let eight : length c.games_of-sizes.result ≡ 8 = search (unmapped, rules) in
    let games : length c.args.out.now.sizes ≡ 8 = rw c.games_of-sizes.ensures at eight in
    let over = rw c.games_of-sizes.ensures at c.is_over.ensures in
    let next = rw (c.games_of-sizes.ensures, c.places_of-bookings.ensures) at c.next-game.ensures in
    let sizes = rw c.games_of-sizes.ensures at c.sizes_of.ensures in
    let found = rw c.places_of-bookings.ensures at c.greedy_handed-handed.ensures in
    let stay = rw c.places_of-bookings.ensures at c.without_seated-staying.ensures in
    let a = c.args in
    dispatch_told a.out.now (of_ratings a.ids.now a.ratings.now) a.clock a.players.now a.qualities.now over c.if-is_over.false places games c.next-game.result next sizes c.greedy_handed-handed.result found c.served-served.result c.served-served.ensures _ stay refl refl c.last_served-out.ensures
