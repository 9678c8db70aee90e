-- A search among the first bookings.
use mathlib.Core.Path.{◌≡◌, ap, ◌∙◌}
use Rattle.std.proofs.Common.{rules}
use borrow.Author.Tests.{tests}
use lib.ListN.{length, take}
use Rattle.std.proofs.lemmas.Iterator.{YieldsList-from_slice}
use Rattle.base.specs.Lists.{any}
use Rattle.base.proofs.Arrays.{unmapped}
use Rattle.base.proofs.Chains.{any_ran}
use Rattle.hall.specs.Hall.{has_time_over}
use Rattle.hall.proofs.WaitLaws.{alike}
use Rattle.hall.proofs.waiting.has_time_over.Goals as goal

pub returns : goal.returns
returns c =
    let s = c.args in
    let w : length s.bookings ≡ 64 = search (unmapped, rules) in
    any_ran has_time_over _ c.any.ensures.ran (YieldsList-from_slice (take c.at_most-k.result s.bookings) cc) (λ x b q k. search (rules, tests))
    ∙ ap (any has_time_over) (alike s.bookings s.n _ w c.at_most-k.ensures)
