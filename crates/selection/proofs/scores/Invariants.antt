-- An array filled: what is written are the scores of the first candidates.
use Rattle.objective.specs.declared.soft.SoftObjective.{SoftObjective}
use Rattle.matchmaker.specs.declared.ProposedMatch.{ProposedMatch}
use lib.Ieee.{Float}
use Prim.Native.Nat.{ℕ}
use mathlib.Core.Path.{◌≡◌}
use mathlib.Core.List.{map, List}
use lib.ListN.{length, take}
use Rattle.roster.specs.Roster.{of_ratings}
use Rattle.matchmaker.specs.Quality.{match_of}
use Rattle.objective.specs.Soft.{soft_score_of}
use Rattle.selection.proofs.scores.Given as goal

-- the score of a candidate
abbrev score : List SoftObjective → ℕ → List ℕ → List Float → ProposedMatch → Float
score objectives count ids ratings candidate = soft_score_of (of_ratings ids ratings) (match_of candidate) (take count objectives)

abbrev pub invariant-loop-i : goal.invariant-loop-i
invariant-loop-i l = (length l.out ≡ 64) × (take l.i l.out ≡ map (score l.objectives l.count l.ids l.ratings) (take l.i l.candidates))
