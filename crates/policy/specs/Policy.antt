-- Document 01, the off-path part: `MatchPolicy` (policy.rs), hard constraints and soft objectives together.
use Rattle.std.specs.Prelude.{ℕ, true, cond, ◌||◌, List, ltb, Float, take}
use Rattle.std.specs.Float.{inf}
use Rattle.base.specs.Refusals.{Outcome, refused, gives, guarded}
use Rattle.roster.specs.Roster.{Roster, rules_check}
use Rattle.matchmaker.specs.Quality.{MatchState, overfull}
use Rattle.objective.specs.declared.soft.SoftObjective.{SoftObjective}
use Rattle.objective.specs.Soft.{soft_score_of}
use Rattle.constraint.specs.Constraints.{constraints_hold}
use Rattle.constraint.specs.Refusing.{constraints_over, brought_pairs_check}
use Rattle.constraint.specs.declared.Constraints.{Constraints}

-- "`MatchPolicy::score` (-infinity on violation)", else the weighted sum
abbrev pub policy_score_of : Roster → Constraints → List SoftObjective → MatchState → Float
policy_score_of r c objectives m = cond (constraints_hold r c m) (soft_score_of r m objectives) (inf true)

-- refusals 1 and 2, or the score; `count` is the stated number of objectives
abbrev pub policy_score_rule : Roster → Constraints → List SoftObjective → ℕ → MatchState → Outcome Float
policy_score_rule r c objectives count m =
    cond (overfull m || (constraints_over c || ltb 8 count)) (refused 1)
    (guarded (rules_check r) (guarded (brought_pairs_check c) (gives (policy_score_of r c (take count objectives) m))))
