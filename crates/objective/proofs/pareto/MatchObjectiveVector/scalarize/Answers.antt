-- `MatchObjectiveVector::scalarize` meets its contract: the sum is the definition.
use mathlib.Core.Path.{refl}
use Rattle.objective.specs.Pareto.{scalarized}
use Rattle.objective.proofs.pareto.MatchObjectiveVector.scalarize.Goals as goal

pub returns : goal.returns
unfolding scalarized
returns c = refl
