-- What the exported scores answer, and the soft objectives as they cross: kinds and weights in numbers.
use Rattle.std.specs.Prelude.{ℕ, Bool, cond, List, [], ◌∷◌, eqb, ltb, Float, take}
use Rattle.base.specs.Floats.{zero}
use Rattle.base.specs.Refusals.{Outcome, refused}
use Rattle.base.specs.Lists.{any}
use Rattle.roster.specs.Roster.{Roster}
use Rattle.matchmaker.specs.Quality.{MatchState}
use Rattle.objective.specs.Soft.{soft_value_rule, soft_score_rule}
use Rattle.objective.specs.declared.soft.SoftObjective.{SoftObjective}
use Rattle.objective.specs.declared.soft.SoftObjective.TheVariants.{Skill, Latency, Wait}
use Rattle.base.specs.Numbers.{refusal_of, value_or}
use Rattle.capi.specs.declared.scores.Scored.{Scored}
use Rattle.capi.specs.declared.scores.SoftObjectives.{SoftObjectives}

abbrev pub scored_numbers : Outcome Float → Scored
scored_numbers o = record { value = value_or zero o; refusal = refusal_of o }

-- kind 0 is skill, 1 latency, 2 wait
abbrev pub soft_of : ℕ → Float → SoftObjective
soft_of kind w = cond (eqb kind 0) (Skill w) (cond (eqb kind 1) (Latency w) (Wait w))

-- a code that is no kind; the boundary's own limit, so it is refusal 1
abbrev pub is_no_kind : ℕ → Bool
is_no_kind kind = ltb 2 kind

unfoldable pub softs_of : List ℕ → List Float → List SoftObjective
softs_of [] ws = []
softs_of (k ∷ ks) [] = []
softs_of (k ∷ ks) (w ∷ ws) = soft_of k w ∷ softs_of ks ws

abbrev pub soft_value_numbers : Roster → MatchState → ℕ → Float → Outcome Float
soft_value_numbers r m kind weight = cond (is_no_kind kind) (refused 1) (soft_value_rule r m (soft_of kind weight))

abbrev pub soft_score_numbers : Roster → MatchState → SoftObjectives → Outcome Float
soft_score_numbers r m s =
    cond (any is_no_kind (take s.len s.kinds)) (refused 1) (soft_score_rule r m (softs_of s.kinds s.weights) s.len)
