-- The refusals of the search; else its matches are handed out.
use borrow.Author.Rules.{rules}
use native.Mathlib.Omega.{arith}
use Prim.Native.Nat.{◌+◌, ◌*◌, ◌≤◌, ◌<◌}
use mathlib.Core.Path.{◌≡◌}
use lib.ListN.{length, take}
use Rattle.base.proofs.Arrays.{unmapped}
use Rattle.roster.specs.Roster.{of_deviations}
use Rattle.seating.specs.Seating.{Sheets}
use Rattle.hall.proofs.RoundLaws.{beam_refused, beam_sizes, beam_fits, beam_given}
use Rattle.hall.proofs.WaitLaws.{at_most}
use Rattle.hall.proofs.rounds.beam_handed.Goals as goal

pub overflow_add-seats : goal.overflow_add-seats
overflow_add-seats c =
    let places : length c.args.bookings ≡ 64 = search (unmapped, rules) in
    let a = c.args in
    let bs = c.args.bookings in
    let long = places in
    let r = of_deviations a.ids.now a.ratings.now a.deviations.now in
    let sheets : Sheets = record { players = a.players.now; qualities = a.qualities.now } in
    omega (arith, beam_sizes (take a.n bs) (at_most bs a.n long) a.game _ c.eligible-queue.ensures a.sizes a.search.width a.objective r a.clock sheets c.clock_among.ensures _ c.search-formed.ensures _ c.in-Ok.is)

pub overflow_mul-seats : goal.overflow_mul-seats
overflow_mul-seats c =
    let places : length c.args.bookings ≡ 64 = search (unmapped, rules) in
    let bounded : length c.args.players.now < 18446744073709551616 = search rules in
    let a = c.args in
    let bs = c.args.bookings in
    let long = places in
    let r = of_deviations a.ids.now a.ratings.now a.deviations.now in
    let sheets : Sheets = record { players = a.players.now; qualities = a.qualities.now } in
    let same : length c.search-formed.new.players ≡ length a.players.now = search rules in
    let room : length a.players.now < 18446744073709551616 = bounded in
    let fits : c.in-Ok.count * (a.sizes.a + a.sizes.b) ≤ length a.players.now = rw (← same) (beam_fits (take a.n bs) (at_most bs a.n long) a.game _ c.eligible-queue.ensures a.sizes a.search.width a.objective r a.clock sheets c.clock_among.ensures _ c.search-formed.ensures _ c.in-Ok.is) in
    search rules

pub returns-in-Err : goal.returns-in-Err
returns-in-Err c =
    let places : length c.args.bookings ≡ 64 = search (unmapped, rules) in
    let a = c.args in
    let bs = c.args.bookings in
    let long = places in
    let r = of_deviations a.ids.now a.ratings.now a.deviations.now in
    let sheets : Sheets = record { players = a.players.now; qualities = a.qualities.now } in
    beam_refused (take a.n bs) (at_most bs a.n long) a.game _ c.eligible-queue.ensures a.sizes a.search.width a.objective r a.clock sheets c.clock_among.ensures _ c.search-formed.ensures _ c.in-Err.is c.refuses.ensures

pub returns-in-Ok : goal.returns-in-Ok
returns-in-Ok c =
    let places : length c.args.bookings ≡ 64 = search (unmapped, rules) in
    let a = c.args in
    let bs = c.args.bookings in
    let long = places in
    let r = of_deviations a.ids.now a.ratings.now a.deviations.now in
    let sheets : Sheets = record { players = a.players.now; qualities = a.qualities.now } in
    beam_given (take a.n bs) (at_most bs a.n long) a.game _ c.eligible-queue.ensures a.sizes a.search.width a.objective r a.clock sheets c.clock_among.ensures _ c.search-formed.ensures _ c.in-Ok.is
