-- Document 02, 2.4: "A game that keeps enough is served within eight dispatches not refused, for every list of other calls between them."
use Rattle.std.specs.Prelude.{ℕ, ◌≤◌, ◌<◌, ◌≡◌, true, List, ◌∷◌, ◌++◌}
use Rattle.std.specs.Prelude.{Some}
use Rattle.seating.specs.declared.TeamComposition.{TeamComposition}
use Rattle.hall.specs.Hall.{HallState, empty}
use Rattle.hall.specs.Rounds.{RoundCall, ready}
use Rattle.demand.specs.Calls.{Call, round, step, after, answers, dispatches, dispatches_in, served_of}

module _ (h : HallState) (calls : List Call) where
  -- a dispatch among these calls, from hall h on, that is not refused; before it and behind it are any calls
  pub record Dispatch : Type 0 where
    pub before : List Call
    pub call : RoundCall
    pub behind : List Call
    pub place : calls ≡ before ++ (round call ∷ behind)
    pub given : dispatches (round call) (step (after h before) (round call)).answer ≡ true

  -- fewer than n dispatches not refused come before it: it is one of the first n
  abbrev pub AmongFirst : ℕ → Dispatch → Type 0
  AmongFirst n d = dispatches_in d.before (answers h d.before) < n

  -- just before it, game g has A + B above 0 and at least that many waiting
  abbrev pub HasEnough : ℕ → Dispatch → Type 0
  HasEnough g d = ready (after h d.before) g ≡ true

  -- it serves game g, and says so
  abbrev pub Serves : ℕ → Dispatch → Type 0
  Serves g d = served_of (step (after h d.before) (round d.call)).answer ≡ Some g

  -- the game has enough at each of the first n dispatches not refused
  abbrev pub KeepsEnough : ℕ → ℕ → Type 0
  KeepsEnough n g = (d : Dispatch) → AmongFirst n d → HasEnough g d

  -- one of the first n dispatches not refused serves the game
  pub record ServedWithin (n g : ℕ) : Type 0 where
    pub dispatch : Dispatch
    pub early : AmongFirst n dispatch
    pub serves : Serves g dispatch

  -- where these calls have eight dispatches not refused, a game that keeps enough is served by one of the first eight, whatever else is called
  abbrev pub Fair : ℕ → Type 0
  Fair g = KeepsEnough 8 g → 8 ≤ dispatches_in calls (answers h calls) → ServedWithin 8 g

-- behind any calls from an empty hall with any sizes, for any calls that follow, and for each of the eight games
abbrev pub Fairness : Type 0
Fairness = (sizes : List TeamComposition) (pre calls : List Call) (g : ℕ) → g < 8 → Fair (after (empty sizes) pre) calls g
