-- Document 01, "Exhaustive, constraints, selection": the four selections (selection.rs) over a list of candidates.
use Rattle.std.specs.Prelude.{ℕ, suc, Bool, true, cond, ◌||◌, ltb, eqb, Float, length, take}
use mathlib.Core.List.{List, [], ◌∷◌, map, foldl}
use Rattle.std.specs.Float.{inf, binary64}
use Rattle.std.specs.Float.Ieee.{sub, mul, lt, le, ne, of_bits}
use Rattle.base.specs.Refusals.{Outcome, refused, gives, guarded, outcome_of}
use Rattle.base.specs.Lists.{seek, any, keep}
use Rattle.base.specs.Ranking.{unrankable, last_best, higher, sort_by}
use Rattle.ranking.specs.declared.Ranked.{Ranked}
use Rattle.ranking.specs.Order.{ranked_score, numbered, places_in}
use Rattle.roster.specs.Roster.{Roster, ratings_check}
use Rattle.matchmaker.specs.declared.ProposedMatch.{ProposedMatch}
use Rattle.matchmaker.specs.Quality.{MatchState, match_of, overfull, quality_of}
use Rattle.objective.specs.declared.soft.SoftObjective.{SoftObjective}
use Rattle.objective.specs.declared.pareto.ObjectiveWeights.{ObjectiveWeights}
use Rattle.objective.specs.Soft.{soft_value_of, soft_score_of}
use Rattle.selection.specs.declared.Selected.{Selected}

-- the candidates: the stated number, and the matches
pub record Candidates : Type 0 where
  pub size : ℕ
  pub matches : List MatchState

abbrev pub candidates_of : List ProposedMatch → ℕ → Candidates
candidates_of cs n = record { size = n; matches = map match_of (take n cs) }

-- an answer: the number of places that it states, and "the chosen candidates' places in the given list, from 0", or the refusal
pub record SelectedState : Type 0 where
  pub size : ℕ
  pub places : Outcome (List ℕ)

abbrev pub selected_of : Selected → SelectedState
selected_of s = record { size = s.count; places = guarded (outcome_of s.answer) (gives (take s.count s.places)) }

-- the answer that states as many places as it gives
abbrev pub stated : Outcome (List ℕ) → SelectedState
stated o = record { size = places_in o; places = o }

-- ---- refusals

-- refusal 1: over 64 candidates, a team over 8, over 8 objectives
abbrev pub too_much : Candidates → ℕ → Bool
too_much c objectives = ltb 64 c.size || (any overfull c.matches || ltb 8 objectives)

-- ---- GreedySelection: "takes the last of equal best"

abbrev pub best_of : List Ranked → List ℕ
best_of [] = []
best_of (x ∷ xs) = (last_best ranked_score x xs).place ∷ []

abbrev pub scores_of : Roster → List SoftObjective → Candidates → List Float
scores_of r objectives c = map (λ m. soft_score_of r m objectives) c.matches

abbrev pub greedy_selection_rule : Roster → List SoftObjective → ℕ → Candidates → Outcome (List ℕ)
greedy_selection_rule r objectives count c =
    cond (too_much c count) (refused 1)
    (guarded (ratings_check r)
    (cond (unrankable (scores_of r (take count objectives) c)) (refused 5) (gives (best_of (numbered 0 (scores_of r (take count objectives) c))))))

-- ---- ThresholdSelection: "takes the first at or above the minimum"

abbrev pub first_at_least : Float → List Ranked → List ℕ
first_at_least minimum = seek (λ c. le minimum c.score) (λ c. c.place ∷ []) []

abbrev pub threshold_rule : Roster → Float → List SoftObjective → ℕ → Candidates → Outcome (List ℕ)
threshold_rule r minimum objectives count c =
    cond (too_much c count) (refused 1)
    (guarded (ratings_check r) (gives (first_at_least minimum (numbered 0 (scores_of r (take count objectives) c)))))

-- ---- LexicographicSelection: "per objective and without its weight, keeps scores at least the maximum minus 0.001, stopping at
-- one; NaN is dropped"

-- 0.001
abbrev pub thousandth : Float
thousandth = of_bits binary64 0x3f50_624d_d2f1_a9fc

-- the larger of the two; where one is NaN, the other
unfoldable pub max_of : Float → Float → Float
max_of x y = cond (lt x y) y (cond (ne x x) y x)

abbrev pub highest_of : List Float → Float
highest_of = foldl max_of (inf true)

-- a candidate that is still kept
pub record StillIn : Type 0 where
  pub place : ℕ
  pub match : MatchState

unfoldable pub placed : ℕ → List MatchState → List StillIn
placed at [] = []
placed at (m ∷ ms) = record { place = at; match = m } ∷ placed (suc at) ms

abbrev pub value_of : Roster → SoftObjective → StillIn → Float
value_of r o k = soft_value_of r k.match o

abbrev pub near_best : Roster → SoftObjective → List StillIn → List StillIn
near_best r o ks = keep (λ k. le (sub binary64 (highest_of (map (value_of r o) ks)) thousandth) (value_of r o k)) ks

unfoldable pub narrowed : Roster → List SoftObjective → List StillIn → List StillIn
narrowed r [] ks = ks
narrowed r (o ∷ os) ks = cond (eqb (length (near_best r o ks)) 1) (near_best r o ks) (narrowed r os (near_best r o ks))

abbrev pub lexicographic_rule : Roster → List SoftObjective → ℕ → Candidates → Outcome (List ℕ)
lexicographic_rule r objectives count c =
    cond (too_much c count) (refused 1)
    (guarded (ratings_check r) (gives (map (λ k. k.place) (narrowed r (take count objectives) (placed 0 c.matches)))))

-- ---- WeightedObjectiveSelection: "the stable falling order on every list"; the score is the skill weight times the quality

abbrev pub skill_scores : Roster → ObjectiveWeights → Candidates → List Float
skill_scores r w c = map (λ m. mul binary64 w.skill (quality_of r m.a.players m.b.players)) c.matches

abbrev pub falling_places : List Float → List ℕ
falling_places scores = map (λ c. c.place) (sort_by (higher ranked_score) (numbered 0 scores))

abbrev pub weighted_rule : Roster → ObjectiveWeights → Candidates → Outcome (List ℕ)
weighted_rule r w c =
    cond (too_much c 0) (refused 1)
    (guarded (ratings_check r) (cond (unrankable (skill_scores r w c)) (refused 5) (gives (falling_places (skill_scores r w c)))))
