-- A search: the place of the first booking of the player.
use mathlib.Core.Path.{◌∙◌}
use Rattle.std.proofs.Common.{rules}
use borrow.Author.Tests.{tests}
use Rattle.std.proofs.lemmas.Iterator.{YieldsList-from_slice}
use Rattle.base.proofs.Chains.{place_ran}
use Rattle.hall.specs.Hall.{booked_by}
use Rattle.hall.proofs.waiting.place_of.Goals as goal

pub returns : goal.returns
returns c =
    c.unwrap_or.ensures ∙ place_ran (booked_by c.args.player) _ c.position.ensures.ran (YieldsList-from_slice c.args.bookings.now cc) (λ x b q k. search (rules, tests))
