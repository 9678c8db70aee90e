-- What the exported selections answer: the places and their number, none where it is refused.
use Rattle.std.specs.Prelude.{ℕ, ◌≡◌, cond, List, [], Float, length, take}
use Rattle.base.specs.Lists.{any}
use Rattle.base.specs.Refusals.{Outcome, refused}
use Rattle.roster.specs.Roster.{Roster}
use Rattle.objective.specs.declared.pareto.ObjectiveWeights.{ObjectiveWeights}
use Rattle.selection.specs.Selection as S
use Rattle.base.specs.Numbers.{refusal_of, value_or}
use Rattle.capi.specs.Scores.{is_no_kind, softs_of}
use Rattle.capi.specs.declared.scores.SoftObjectives.{SoftObjectives}
use Rattle.capi.specs.declared.selections.Candidates.{Candidates}
use Rattle.capi.specs.declared.selections.Selected.{Selected}

abbrev pub candidates_in : Candidates → S.Candidates
candidates_in c = S.candidates_of c.items c.len

pub record SelectNumbers (o : Outcome (List ℕ)) (r : Selected) : Type 0 where
  pub places : take r.len r.places ≡ value_or [] o
  pub len : r.len ≡ length (value_or [] o)
  pub refusal : r.refusal ≡ refusal_of o

-- a soft kind that is none, or what comes behind
abbrev pub by_kinds : SoftObjectives → Outcome (List ℕ) → Outcome (List ℕ)
by_kinds s rest = cond (any is_no_kind (take s.len s.kinds)) (refused 1) rest

abbrev pub greedy_numbers : Roster → SoftObjectives → Candidates → Outcome (List ℕ)
greedy_numbers r s c = by_kinds s (S.greedy_selection_rule r (softs_of s.kinds s.weights) s.len (candidates_in c))

abbrev pub threshold_numbers : Roster → Float → SoftObjectives → Candidates → Outcome (List ℕ)
threshold_numbers r minimum s c = by_kinds s (S.threshold_rule r minimum (softs_of s.kinds s.weights) s.len (candidates_in c))

abbrev pub lexicographic_numbers : Roster → SoftObjectives → Candidates → Outcome (List ℕ)
lexicographic_numbers r s c = by_kinds s (S.lexicographic_rule r (softs_of s.kinds s.weights) s.len (candidates_in c))

abbrev pub weighted_numbers : Roster → ObjectiveWeights → Candidates → Outcome (List ℕ)
weighted_numbers r w c = S.weighted_rule r w (candidates_in c)
