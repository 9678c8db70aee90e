-- Document 02, 2.3, over every list of calls: a full round that brings waiting friends leaves none of them behind.
use Prim.Native.Nat.{ℕ}
use mathlib.Core.Path.{◌≡◌}
use mathlib.Core.Bool.{true}
use mathlib.Core.List.{List, ◌∷◌, ◌++◌, map}
use Rattle.base.specs.Refusals.{gives}
use Rattle.base.specs.Lists.{All}
use Rattle.seating.specs.declared.TeamComposition.{TeamComposition}
use Rattle.choice.specs.Full.{Terms}
use Rattle.choice.specs.WaitingFriends.{Together}
use Rattle.hall.specs.Games.{sizes_for, eligible}
use Rattle.hall.specs.Hall.{entry_of, empty}
use Rattle.hall.specs.Rounds.{RoundCall, full, of_game}
use Rattle.hall.proofs.Friends.{round_together}
use Rattle.demand.specs.Calls.{Call, round, step, after, matches_handed}
use Rattle.demand.specs.Demand.{count_given}
use Rattle.demand.proofs.Demand.{demand3}

-- whoever waited for the round's game just before it, with the party of a booking of somebody seated, is seated
pub together : (sizes : List TeamComposition) (calls pre post : List Call) (g : ℕ) (t : Terms) (c : RoundCall) (n : ℕ) → calls ≡ pre ++ (round c ∷ post) → c.round ≡ of_game g (full t) → t.waiting_friends ≡ true
    → count_given (step (after (empty sizes) pre) (round c)).answer ≡ gives n
    → All (Together (map entry_of (eligible g (after (empty sizes) pre).waiting.bookings))) (matches_handed sizes (round c) (step (after (empty sizes) pre) (round c)).answer)
together sizes calls pre post g t c n e p on f =
    round_together t (sizes_for sizes g) (map entry_of (eligible g (after (empty sizes) pre).waiting.bookings)) on ((demand3 sizes calls).fulls pre post g t c n e p f)
