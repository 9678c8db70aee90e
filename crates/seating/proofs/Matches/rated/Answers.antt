-- `Matches::rated` meets its contract. An array filled: what is written are the qualities of the first matches.
use Prim.Native.Nat.{ℕ}
use mathlib.Core.Path.{◌≡◌}
use mathlib.Core.List.{List}
use native.Mathlib.Omega.{arith}
use lib.Ieee.{Float}
use lib.ListN.{length, length-set}
use Rattle.base.proofs.Arrays.{fill_on, unmapped, held_fits}
use Rattle.roster.specs.Roster.{of_ratings}
use Rattle.matchmaker.specs.declared.ProposedMatch.{ProposedMatch}
use Rattle.matchmaker.specs.Quality.{match_of, quality_of}
use Rattle.seating.specs.Seating.{matches_of}
use Rattle.seating.proofs.Laws.{matches_held, filled_held}
use borrow.Author.Rules.{rules}
use Rattle.seating.proofs.Matches.rated.Goals as goal

-- the quality of a match
abbrev quality : List ℕ → List Float → ProposedMatch → Float
quality ids ratings m = quality_of (of_ratings ids ratings) (match_of m).a.players (match_of m).b.players

pub loop-i-preserved : goal.loop-i-preserved
loop-i-preserved c =
    let s = c.args in
    let w : length s.self.items ≡ 64 = search (unmapped, rules) in
    let l = c.loop-i in
    let fits = held_fits s.self.len s.self.items (matches_held s.self c.held-i-end.ensures) in
    (simp length-set l.invariant.0, fill_on (quality s.ids.now s.ratings.now) s.self.items l.out l.i _ (omega arith) (omega arith) l.invariant.1 c.rated_quality.ensures)

pub returns : goal.returns
returns c =
    let s = c.args in
    let r = of_ratings s.ids.now s.ratings.now in
    let l = c.loop-i in
    let e : l.i ≡ length (matches_of s.self).items = omega (arith, c.held-i-end.ensures) in
    filled_held (λ m. quality_of r m.a.players m.b.players) match_of s.self.items s.self.len l.i l.out e l.invariant.1
