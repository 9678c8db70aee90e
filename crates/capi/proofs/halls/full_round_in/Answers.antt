-- 13, the hall over its limits, a code that is no kind, or what the full round found, and those who stay.
use borrow.Author.Rules.{rules}
use mathlib.Core.Path.{◌≡◌, refl, sym, ◌∙◌}
use lib.ListN.{length, take}
use Rattle.base.proofs.Arrays.{unmapped}
use Rattle.roster.specs.Roster.{of_rules}
use Rattle.hall.specs.Rounds.{full}
use Rattle.capi.proofs.HallRounds.{game_told, brought, full_away, no_kind_told, kinds_told, terms_told}
use Rattle.capi.proofs.halls.full_round_in.Goals as goal

pub returns-then-refusal-ne0 : goal.returns-then-refusal-ne0
returns-then-refusal-ne0 c =
    let a = c.args in
    let r = of_rules a.ids.now a.ratings.now a.parties.now a.roles.now a.regions.now in
    full_away a.out.now a.game a.rules a.objectives a.clock r a.players.now a.qualities.now c.is_over.ensures c.round_answer-refusal.result c.round_answer-refusal.ensures c.if-refusal-ne0.true

pub returns-then-has_no_kind : goal.returns-then-has_no_kind
returns-then-has_no_kind c =
    let a = c.args in
    let r = of_rules a.ids.now a.ratings.now a.parties.now a.roles.now a.regions.now in
    no_kind_told a.out.now a.game a.rules a.objectives a.clock r a.players.now a.qualities.now c.is_over.ensures c.round_answer-refusal.result c.round_answer-refusal.ensures c.if-refusal-ne0.false (sym c.has_no_kind.ensures ∙ c.if-has_no_kind.true)

pub returns : goal.returns
returns c =
    let held : length c.places_of-bookings.result ≡ 64 = search (unmapped, rules) in
    let places : length c.args.out.now.bookings ≡ 64 = rw c.places_of-bookings.ensures at held in
    let found = rw c.places_of-bookings.ensures at c.full_handed-handed.ensures in
    let stay = rw c.places_of-bookings.ensures at c.without_seated-staying.ensures in
    let a = c.args in
    let r = of_rules a.ids.now a.ratings.now a.parties.now a.roles.now a.regions.now in
    let m = full (brought a.out.now a.game a.rules a.objectives a.clock r a.players.now a.qualities.now) in
    let found = terms_told a.out.now a.game a.rules a.objectives a.clock r a.players.now a.qualities.now c.sizes_of.result (take a.out.now.waiting a.out.now.bookings) c.constraints_of.ensures c.objectives.ensures found in
    kinds_told a.out.now a.game a.rules a.objectives a.clock r a.players.now a.qualities.now (sym c.has_no_kind.ensures ∙ c.if-has_no_kind.false)
    (game_told a.out.now a.game m a.clock a.players.now a.qualities.now c.is_over.ensures c.round_answer-refusal.result c.round_answer-refusal.ensures c.if-refusal-ne0.false places c.sizes_of.ensures c.full_handed-handed.result found _ stay refl refl refl)
