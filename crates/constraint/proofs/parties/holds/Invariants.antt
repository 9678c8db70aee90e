-- `parties::holds` meets its contract: the rest of those seated decides what all of them decide.
use Prim.Native.Nat.{ℕ}
use mathlib.Core.Path.{◌≡◌}
use mathlib.Core.Bool.{Bool}
use lib.ListN.{drop}
use Rattle.base.specs.Lists.{every}
use Rattle.roster.specs.Roster.{of_parties, party_of}
use Rattle.constraint.specs.Constraints.{party_together}
use Rattle.constraint.proofs.parties.holds.Given as goal

abbrev pub invariant-loop-player : goal.invariant-loop-player
invariant-loop-player l = let p : ℕ → Bool = λ player. party_together (of_parties l.ids l.parties) l.players (party_of (of_parties l.ids l.parties) player) in
    every p l.players ≡ every p (drop l.player-index l.players)
