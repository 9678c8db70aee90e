-- A search: the rest gives what the whole gives.
use mathlib.Core.Path.{◌≡◌}
use lib.ListN.{drop}
use Rattle.base.specs.Lists.{member}
use Rattle.hall.proofs.waiting.is_seated.Given as goal

abbrev pub invariant-loop-seated : goal.invariant-loop-seated
invariant-loop-seated l = member l.player l.seated-items ≡ member l.player (drop l.seated-index l.seated-items)
