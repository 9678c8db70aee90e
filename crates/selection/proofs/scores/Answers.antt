-- An array filled: what is written are the scores of the first candidates.
use Rattle.objective.specs.declared.soft.SoftObjective.{SoftObjective}
use Rattle.matchmaker.specs.declared.ProposedMatch.{ProposedMatch}
use lib.Ieee.{Float}
use Prim.Native.Nat.{ℕ}
use mathlib.Core.Path.{◌≡◌, sym, ap, ◌∙◌}
use mathlib.Core.List.{map, List, map-map}
use native.Mathlib.Omega.{arith}
use lib.ListN.{take, length-set}
use Rattle.base.proofs.Arrays.{fill_on}
use Rattle.roster.specs.Roster.{of_ratings}
use Rattle.matchmaker.specs.Quality.{match_of}
use Rattle.objective.specs.Soft.{soft_score_of}
use Rattle.selection.proofs.scores.Goals as goal

-- the score of a candidate
abbrev score : List SoftObjective → ℕ → List ℕ → List Float → ProposedMatch → Float
score objectives count ids ratings candidate = soft_score_of (of_ratings ids ratings) (match_of candidate) (take count objectives)

pub loop-i-preserved : goal.loop-i-preserved
loop-i-preserved c =
    let s = c.args in
    let l = c.loop-i in
    (simp length-set l.invariant.0, fill_on (score s.objectives s.count s.ids.now s.ratings.now) s.candidates l.out l.i _ (omega arith) (omega arith) l.invariant.1 c.rated_soft_score.ensures)

pub returns : goal.returns
returns c =
    let s = c.args in
    let l = c.loop-i in
    let e : s.n ≡ l.i = omega arith in
    ap (λ (k : ℕ). take k l.out) e ∙ l.invariant.1 ∙ ap (λ (k : ℕ). map (score s.objectives s.count s.ids.now s.ratings.now) (take k s.candidates)) (sym e)
    ∙ sym (map-map (λ m. soft_score_of (of_ratings s.ids.now s.ratings.now) m (take s.count s.objectives)) match_of (take s.n s.candidates))
