-- All stay, or the row is closed up.
use borrow.Author.Rules.{rules}
use native.Mathlib.Omega.{arith}
use mathlib.Core.Path.{◌≡◌}
use lib.ListN.{length}
use Rattle.base.proofs.Arrays.{unmapped}
use Rattle.hall.proofs.WaitLaws.{stay_all, stay_rest}
use Rattle.hall.proofs.waiting.without_first.Goals as goal

pub returns-then-k-at : goal.returns-then-k-at
returns-then-k-at c =
    let a = c.args in
    let long : length a.bookings ≡ 64 = search (unmapped, rules) in
    stay_all a.bookings a.n _ long c.at_most-k.ensures _ a.player c.place_of-at.ensures c.if-k-at.true

pub closed_up-rest-requires : goal.closed_up-rest-requires
closed_up-rest-requires c = (omega (arith, c.at_most-k.ensures), c.if-k-at.false)

pub returns : goal.returns
returns c =
    let a = c.args in
    let long : length a.bookings ≡ 64 = search (unmapped, rules) in
    let gone : length c.closed_up-rest.result ≡ 64 = search (unmapped, rules) in
    stay_rest a.bookings a.n _ long c.at_most-k.ensures _ a.player c.place_of-at.ensures _ gone c.closed_up-rest.ensures
