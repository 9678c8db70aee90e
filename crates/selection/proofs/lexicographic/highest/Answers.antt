-- The highest so far and the rest of the shortlist make the highest of all.
use Rattle.selection.specs.declared.lexicographic.Candidate.{Candidate}
use Rattle.objective.specs.declared.soft.SoftObjective.{SoftObjective}
use Prim.Native.Nat.{ℕ}
use mathlib.Core.Path.{sym, ap, ◌∙◌}
use mathlib.Core.List.{foldl, List, map-map}
use native.Mathlib.Omega.{arith}
use lib.Ieee.{Float}
use Rattle.base.proofs.Loops.{fold_on}
use Rattle.roster.specs.Roster.{of_ratings}
use Rattle.selection.specs.Selection.{max_of, highest_of, value_of}
use Rattle.selection.specs.Steps.{still_in_of}
use Rattle.selection.proofs.Laws.{fold_over, fold_map, lowest}
use Rattle.selection.proofs.lexicographic.highest.Goals as goal

-- the higher of the best so far and a candidate's value
abbrev step : SoftObjective → List ℕ → List Float → Float → Candidate → Float
step objective ids ratings best candidate = max_of best (value_of (of_ratings ids ratings) objective (still_in_of candidate))

pub loop-candidate-preserved : goal.loop-candidate-preserved
loop-candidate-preserved c =
    let s = c.args in
    let l = c.loop-candidate in
    fold_on (step s.objective s.ids.now s.ratings.now) _ s.kept.now l.candidate-index (omega arith) (c.max-best.ensures ∙ ap (max_of l.best) c.value.ensures) ∙ l.invariant

pub returns : goal.returns
returns c =
    let s = c.args in
    let l = c.loop-candidate in
    let r = of_ratings s.ids.now s.ratings.now in
    sym (fold_over (step s.objective s.ids.now s.ratings.now) s.kept.now l.candidate-index l.best (omega arith))
    ∙ l.invariant
    ∙ ap (λ (b : Float). foldl (step s.objective s.ids.now s.ratings.now) b s.kept.now) lowest
    ∙ fold_map (λ k. value_of r s.objective (still_in_of k)) max_of _ s.kept.now
    ∙ ap highest_of (sym (map-map (value_of r s.objective) still_in_of s.kept.now))
