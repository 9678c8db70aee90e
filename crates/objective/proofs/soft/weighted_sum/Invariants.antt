-- `soft::weighted_sum` meets its contract: the sum so far with the rest of the objectives makes the whole sum.
use mathlib.Core.Path.{◌≡◌}
use mathlib.Core.List.{foldl}
use lib.ListN.{drop}
use Rattle.objective.specs.Soft.{weighted, weighted_sum}
use Rattle.objective.proofs.soft.weighted_sum.Given as goal

abbrev pub invariant-loop-objective : goal.invariant-loop-objective
invariant-loop-objective l = foldl (weighted l.quality l.latency) l.sum (drop l.objective-index l.objective-items) ≡ weighted_sum l.quality l.latency l.objective-items
