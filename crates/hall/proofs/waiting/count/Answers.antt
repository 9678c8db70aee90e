-- A count of those whom the test keeps.
use mathlib.Core.Path.{◌≡◌, ap, ◌∙◌}
use mathlib.Core.Bool.{Bool}
use mathlib.Core.List.{List}
use Rattle.std.proofs.Common.{rules}
use borrow.Author.Tests.{tests}
use lib.Dec.{eqb}
use lib.ListN.{length, take}
use Rattle.std.proofs.lemmas.Iterator.{YieldsList-from_slice}
use Rattle.std.proofs.lemmas.Iterator.Consumers.{YieldsList-from_filter, count_from_yields_List}
use Rattle.base.proofs.Arrays.{unmapped}
use Rattle.base.proofs.Chains.{keep_of_list}
use Rattle.hall.specs.declared.Booking.{Booking}
use Rattle.hall.specs.Games.{eligible}
use Rattle.hall.proofs.WaitLaws.{alike}
use Rattle.hall.proofs.waiting.count.Goals as goal

pub returns : goal.returns
returns c =
    let s = c.args in
    let w : length s.bookings ≡ 64 = search (unmapped, rules) in
    let row = take c.at_most-k.result s.bookings in
    let own : Booking → Bool = λ b. eqb b.game s.game in
    count_from_yields_List c.filter.result _ c.count.ensures.ran (YieldsList-from_filter _ own (YieldsList-from_slice row cc) c.filter.ensures.closure (λ x r q k. search (rules, tests)))
    ∙ ap length (keep_of_list own row)
    ∙ ap (λ (bs : List Booking). length (eligible s.game bs)) (alike s.bookings s.n _ w c.at_most-k.ensures)
