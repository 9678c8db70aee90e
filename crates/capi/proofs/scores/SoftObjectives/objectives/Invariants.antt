-- Each turn writes one objective behind those before it.
use mathlib.Core.Path.{◌≡◌}
use mathlib.Core.List.{◌++◌}
use lib.ListN.{length, take, drop}
use Rattle.capi.specs.Scores.{softs_of}
use Rattle.capi.proofs.scores.SoftObjectives.objectives.Given as goal

abbrev pub invariant-loop-i : goal.invariant-loop-i
invariant-loop-i l = (length l.out ≡ 8) × (take l.i l.out ++ softs_of (drop l.i l.kinds) (drop l.i l.weights) ≡ softs_of l.kinds l.weights)
