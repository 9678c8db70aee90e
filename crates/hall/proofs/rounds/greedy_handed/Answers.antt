-- The refusals by their tests; a search that refuses nothing hands its matches out.
use borrow.Author.Rules.{rules}
use native.Mathlib.Omega.{arith}
use Prim.Native.Nat.{◌+◌, ◌*◌, ◌≤◌, ◌<◌}
use mathlib.Core.Path.{◌≡◌, refl, sym, ◌∙◌}
use lib.ListN.{length, take}
use Rattle.base.proofs.Arrays.{unmapped}
use Rattle.queue.specs.Queue.{queue_of}
use Rattle.roster.specs.Roster.{of_ratings}
use Rattle.seating.specs.Seating.{Sheets}
use Rattle.seating.proofs.Checked.{passed_check}
use Rattle.hall.proofs.RoundLaws.{greedy_refused, greedy_clock, greedy_search_refused, greedy_fits, greedy_given}
use Rattle.hall.proofs.WaitLaws.{at_most}
use Rattle.hall.proofs.rounds.greedy_handed.Goals as goal

pub returns-in-Err : goal.returns-in-Err
returns-in-Err c =
    let places : length c.args.bookings ≡ 64 = search (unmapped, rules) in
    let a = c.args in
    let bs = c.args.bookings in
    let long = places in
    let r = of_ratings a.ids.now a.ratings.now in
    let sheets : Sheets = record { players = a.players.now; qualities = a.qualities.now } in
    greedy_refused (take a.n bs) (at_most bs a.n long) a.game _ c.eligible-queue.ensures a.sizes r a.clock sheets refl _ c.check.ensures _ c.in-Err.is c.refuses.ensures

pub returns-then-is_over : goal.returns-then-is_over
returns-then-is_over c =
    let places : length c.args.bookings ≡ 64 = search (unmapped, rules) in
    let a = c.args in
    let bs = c.args.bookings in
    let long = places in
    let r = of_ratings a.ids.now a.ratings.now in
    let sheets : Sheets = record { players = a.players.now; qualities = a.qualities.now } in
    greedy_clock (take a.n bs) (at_most bs a.n long) a.game _ c.eligible-queue.ensures a.sizes r a.clock sheets c.clock_among.ensures _ c.check.ensures c.in_default.is (sym c.is_over.ensures ∙ c.if-is_over.true) c.refuses-then-is_over.ensures

pub overflow_add-each : goal.overflow_add-each
overflow_add-each c =
    let a = c.args in
    let r = of_ratings a.ids.now a.ratings.now in
    let held = passed_check a.sizes r (queue_of c.eligible-queue.result) (length a.players.now) (length a.qualities.now) _ c.in_default.is c.check.ensures in
    omega (arith, held.a, held.b)

pub overflow_mul-seats : goal.overflow_mul-seats
overflow_mul-seats c =
    let places : length c.args.bookings ≡ 64 = search (unmapped, rules) in
    let bounded : length c.args.players.now < 18446744073709551616 = search rules in
    let a = c.args in
    let bs = c.args.bookings in
    let long = places in
    let r = of_ratings a.ids.now a.ratings.now in
    let sheets : Sheets = record { players = a.players.now; qualities = a.qualities.now } in
    let same : length c.search-formed.new.players ≡ length a.players.now = search rules in
    let room : length a.players.now < 18446744073709551616 = bounded in
    let fits : c.in-Ok.count * (a.sizes.a + a.sizes.b) ≤ length a.players.now = rw (← same) (greedy_fits (take a.n bs) (at_most bs a.n long) a.game _ c.eligible-queue.ensures a.sizes r a.clock sheets c.clock_among.ensures _ c.check.ensures c.in_default.is _ c.search-formed.ensures _ c.in-Ok.is) in
    search rules

pub returns-in-Err-formed : goal.returns-in-Err-formed
returns-in-Err-formed c =
    let places : length c.args.bookings ≡ 64 = search (unmapped, rules) in
    let a = c.args in
    let bs = c.args.bookings in
    let long = places in
    let r = of_ratings a.ids.now a.ratings.now in
    let sheets : Sheets = record { players = a.players.now; qualities = a.qualities.now } in
    greedy_search_refused (take a.n bs) (at_most bs a.n long) a.game _ c.eligible-queue.ensures a.sizes r a.clock sheets c.clock_among.ensures _ c.check.ensures c.in_default.is _ c.search-formed.ensures (sym c.is_over.ensures ∙ c.if-is_over.false) _ c.in-Err-formed.is c.refuses-in-Err-formed.ensures

pub returns-in-Ok : goal.returns-in-Ok
returns-in-Ok c =
    let places : length c.args.bookings ≡ 64 = search (unmapped, rules) in
    let a = c.args in
    let bs = c.args.bookings in
    let long = places in
    let r = of_ratings a.ids.now a.ratings.now in
    let sheets : Sheets = record { players = a.players.now; qualities = a.qualities.now } in
    greedy_given (take a.n bs) (at_most bs a.n long) a.game _ c.eligible-queue.ensures a.sizes r a.clock sheets c.clock_among.ensures _ c.check.ensures c.in_default.is _ c.search-formed.ensures _ c.in-Ok.is (sym c.is_over.ensures ∙ c.if-is_over.false)
