-- The highest so far and the rest of the shortlist make the highest of all.
use Rattle.selection.specs.declared.lexicographic.Candidate.{Candidate}
use Rattle.objective.specs.declared.soft.SoftObjective.{SoftObjective}
use Prim.Native.Nat.{ℕ}
use mathlib.Core.Path.{◌≡◌}
use mathlib.Core.List.{foldl, List}
use lib.Ieee.{Float}
use lib.ListN.{drop}
use Rattle.roster.specs.Roster.{of_ratings}
use Rattle.selection.specs.Selection.{max_of, value_of}
use Rattle.selection.specs.Steps.{still_in_of}
use Rattle.selection.proofs.lexicographic.highest.Given as goal

-- the higher of the best so far and a candidate's value
abbrev step : SoftObjective → List ℕ → List Float → Float → Candidate → Float
step objective ids ratings best candidate = max_of best (value_of (of_ratings ids ratings) objective (still_in_of candidate))

abbrev pub invariant-loop-candidate : goal.invariant-loop-candidate
invariant-loop-candidate l = foldl (step l.objective l.ids l.ratings) l.best (drop l.candidate-index l.kept) ≡ foldl (step l.objective l.ids l.ratings) l.initial.best l.kept
