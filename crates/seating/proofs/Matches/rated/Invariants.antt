-- `Matches::rated` meets its contract. An array filled: what is written are the qualities of the first matches.
use Prim.Native.Nat.{ℕ}
use mathlib.Core.Path.{◌≡◌}
use mathlib.Core.List.{List, map}
use lib.Ieee.{Float}
use lib.ListN.{length, take}
use Rattle.roster.specs.Roster.{of_ratings}
use Rattle.matchmaker.specs.declared.ProposedMatch.{ProposedMatch}
use Rattle.matchmaker.specs.Quality.{match_of, quality_of}
use Rattle.seating.proofs.Matches.rated.Given as goal

-- the quality of a match
abbrev quality : List ℕ → List Float → ProposedMatch → Float
quality ids ratings m = quality_of (of_ratings ids ratings) (match_of m).a.players (match_of m).b.players

abbrev pub invariant-loop-i : goal.invariant-loop-i
invariant-loop-i l = (length l.out ≡ 64) × (take l.i l.out ≡ map (quality l.ids l.ratings) (take l.i l.self.items))
