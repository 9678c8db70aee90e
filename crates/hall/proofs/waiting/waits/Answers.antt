-- The player waits where the place of the first booking is not past the end.
use borrow.Author.Rules.{rules}
use mathlib.Core.Path.{◌≡◌}
use lib.ListN.{length}
use Rattle.base.proofs.Arrays.{unmapped}
use Rattle.hall.proofs.WaitLaws.{waits_by}
use Rattle.hall.proofs.waiting.waits.Goals as goal

pub returns : goal.returns
returns c =
    let a = c.args in
    let long : length a.bookings ≡ 64 = search (unmapped, rules) in
    waits_by a.bookings a.n _ long c.at_most-k.ensures _ a.player c.place_of.ensures
