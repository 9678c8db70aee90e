-- Document 01, the off-path part: objective vectors, `scalarize`, `dominates` and the default weights.
use Rattle.std.specs.Prelude.{Bool, true, false, not, cond, ◌&&◌, List, [], ◌∷◌, Float}
use Rattle.std.specs.Float.{binary64}
use Rattle.std.specs.Float.Ieee.{add, sub, mul, lt, of_bits}
use Rattle.base.specs.Floats.{zero, one}
use Rattle.objective.specs.declared.pareto.MatchObjectiveVector.{MatchObjectiveVector}
use Rattle.objective.specs.declared.pareto.ObjectiveWeights.{ObjectiveWeights}

-- weight times value, summed in the Rust's order, the wait cost subtracted
unfoldable pub scalarized : ObjectiveWeights → MatchObjectiveVector → Float
scalarized w v =
    add binary64
    (sub binary64
    (add binary64
    (add binary64
    (add binary64 (mul binary64 w.skill v.skill) (mul binary64 w.role v.role))
    (mul binary64 w.latency v.latency))
    (mul binary64 w.party v.party))
    (mul binary64 w.wait v.wait))
    (mul binary64 w.utilization v.utilization)

-- is a float of the first list below its counterpart of the second? "NaN coordinates neither better nor worse"
unfoldable pub any_below : List Float → List Float → Bool
any_below [] ys = false
any_below (x ∷ xs) [] = false
any_below (x ∷ xs) (y ∷ ys) = cond (lt x y) true (any_below xs ys)

-- the five coordinates of which more is better, and the other's wait cost, of which less is better
abbrev pub against : MatchObjectiveVector → MatchObjectiveVector → List Float
against v other = v.skill ∷ v.role ∷ v.latency ∷ v.party ∷ v.utilization ∷ other.wait ∷ []

-- no coordinate is worse, and one is better
unfoldable pub dominates_of : MatchObjectiveVector → MatchObjectiveVector → Bool
dominates_of v other = not (any_below (against v other) (against other v)) && any_below (against other v) (against v other)

-- a vector of zeros
abbrev pub zeros : MatchObjectiveVector
zeros = record { skill = zero; role = zero; latency = zero; party = zero; wait = zero; utilization = zero }

-- "the default weights 1.0, 0.5, 0.3, 0.2, 0.8 and 0.0 belong to `ObjectiveWeights`"
abbrev pub default_weights : ObjectiveWeights
default_weights =
    record {
      skill = one;
      role = of_bits binary64 0x3fe0_0000_0000_0000;
      latency = of_bits binary64 0x3fd3_3333_3333_3333;
      party = of_bits binary64 0x3fc9_9999_9999_999a;
      wait = of_bits binary64 0x3fe9_9999_9999_999a;
      utilization = zero;
    }
