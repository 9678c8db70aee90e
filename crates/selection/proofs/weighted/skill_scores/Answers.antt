-- An array filled: what is written are the scores of the first candidates.
use Rattle.matchmaker.specs.declared.ProposedMatch.{ProposedMatch}
use Prim.Native.Nat.{ℕ}
use mathlib.Core.Path.{◌≡◌, sym, ap, ◌∙◌}
use mathlib.Core.List.{map, List, map-map}
use native.Mathlib.Omega.{arith}
use lib.ListN.{take, length-set}
use lib.Ieee.{binary64, mul, Float}
use Rattle.base.proofs.Arrays.{fill_on}
use Rattle.roster.specs.Roster.{of_ratings}
use Rattle.matchmaker.specs.Quality.{match_of, quality_of}
use Rattle.selection.proofs.weighted.skill_scores.Goals as goal

-- the score of a candidate: the skill weight times its quality
abbrev score : Float → List ℕ → List Float → ProposedMatch → Float
score skill ids ratings candidate = mul binary64 skill (quality_of (of_ratings ids ratings) (match_of candidate).a.players (match_of candidate).b.players)

pub loop-i-preserved : goal.loop-i-preserved
loop-i-preserved c =
    let s = c.args in
    let l = c.loop-i in
    (simp length-set l.invariant.0, fill_on (score s.weights.skill s.ids.now s.ratings.now) s.candidates l.out l.i _ (omega arith) (omega arith) l.invariant.1 (ap (mul binary64 s.weights.skill) c.rated_quality.ensures))

pub returns : goal.returns
returns c =
    let s = c.args in
    let l = c.loop-i in
    let e : s.n ≡ l.i = omega arith in
    ap (λ (k : ℕ). take k l.out) e ∙ l.invariant.1 ∙ ap (λ (k : ℕ). map (score s.weights.skill s.ids.now s.ratings.now) (take k s.candidates)) (sym e)
    ∙ sym (map-map (λ m. mul binary64 s.weights.skill (quality_of (of_ratings s.ids.now s.ratings.now) m.a.players m.b.players)) match_of (take s.n s.candidates))
