-- A search: the rest gives what the whole gives.
use mathlib.Core.Path.{◌≡◌}
use lib.ListN.{drop}
use Rattle.base.specs.Lists.{any}
use Rattle.seating.specs.Seating.{sizes_over}
use Rattle.hall.proofs.games.any_over.Given as goal

abbrev pub invariant-loop-g : goal.invariant-loop-g
invariant-loop-g l = any sizes_over l.sizes ≡ any sizes_over (drop l.g l.sizes)
