-- A search: the rest gives what the whole gives.
use mathlib.Core.Path.{◌≡◌}
use lib.ListN.{drop}
use Rattle.base.specs.Lists.{member}
use Rattle.base.proofs.is_among.Given as goal

abbrev pub invariant-loop-other : goal.invariant-loop-other
invariant-loop-other l = member l.number l.numbers ≡ member l.number (drop l.other-index l.numbers)
