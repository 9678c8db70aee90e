-- A refusal for the sheets or the clock, or the best choice on the sheets.
use borrow.Author.Rules.{rules}
use mathlib.Core.Path.{◌≡◌}
use lib.ListN.{length, take}
use Rattle.base.proofs.Arrays.{unmapped}
use Rattle.roster.specs.Roster.{of_rules}
use Rattle.seating.specs.Seating.{Sheets}
use Rattle.hall.proofs.WaitLaws.{at_most}
use Rattle.hall.proofs.ChoiceRounds.{places_fit, full_refused, full_given}
use Rattle.hall.proofs.rounds.full_handed.Goals as goal

pub returns-in-Err : goal.returns-in-Err
returns-in-Err c =
    let places : length c.args.bookings ≡ 64 = search (unmapped, rules) in
    let a = c.args in
    let r = of_rules a.ids.now a.ratings.now a.parties.now a.roles.now a.regions.now in
    let bs = c.args.bookings in
    let long = places in
    let sheets : Sheets = record { players = a.players.now; qualities = a.qualities.now } in
    full_refused a.sizes a.constraints a.friends a.objectives a.count r a.clock sheets a.game (take a.n bs) (at_most bs a.n long) c.clock_among-at.ensures _ c.check_sheets_and_clock-checked.ensures _ c.in-Err.is c.first_refusal.result c.first_refusal.ensures c.refuses.ensures

pub choice_handed-requires : goal.choice_handed-requires
choice_handed-requires c =
    let a = c.args in
    places_fit c.clock_among-at.result (length a.players.now) (length a.qualities.now) c.in_default.is c.check_sheets_and_clock-checked.ensures

pub returns : goal.returns
returns c =
    let places : length c.args.bookings ≡ 64 = search (unmapped, rules) in
    let a = c.args in
    let r = of_rules a.ids.now a.ratings.now a.parties.now a.roles.now a.regions.now in
    let bs = c.args.bookings in
    let long = places in
    let sheets : Sheets = record { players = a.players.now; qualities = a.qualities.now } in
    full_given a.sizes a.constraints a.friends a.objectives a.count r a.clock sheets a.game (take a.n bs) (at_most bs a.n long) c.clock_among-at.ensures _ c.check_sheets_and_clock-checked.ensures c.in_default.is c.eligible.ensures c.best_choice-choice.ensures c.choice_handed.ensures
