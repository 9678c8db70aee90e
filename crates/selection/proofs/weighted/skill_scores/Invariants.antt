-- An array filled: what is written are the scores of the first candidates.
use Rattle.matchmaker.specs.declared.ProposedMatch.{ProposedMatch}
use Prim.Native.Nat.{ℕ}
use mathlib.Core.Path.{◌≡◌}
use mathlib.Core.List.{map, List}
use lib.ListN.{length, take}
use lib.Ieee.{binary64, mul, Float}
use Rattle.roster.specs.Roster.{of_ratings}
use Rattle.matchmaker.specs.Quality.{match_of, quality_of}
use Rattle.selection.proofs.weighted.skill_scores.Given as goal

-- the score of a candidate: the skill weight times its quality
abbrev score : Float → List ℕ → List Float → ProposedMatch → Float
score skill ids ratings candidate = mul binary64 skill (quality_of (of_ratings ids ratings) (match_of candidate).a.players (match_of candidate).b.players)

abbrev pub invariant-loop-i : goal.invariant-loop-i
invariant-loop-i l = (length l.out ≡ 64) × (take l.i l.out ≡ map (score l.weights.skill l.ids l.ratings) (take l.i l.candidates))
