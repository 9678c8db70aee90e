-- A run: calls served one after another, each by a function that kept its promise, on the hall that the one before returned.
use Rattle.std.specs.Prelude.{ℕ, ◌<◌, ◌≡◌, List, [], ◌∷◌, ◌++◌}
use Rattle.seating.specs.declared.TeamComposition.{TeamComposition}
use Rattle.seating.specs.Seating.{Sheets}
use Rattle.hall.specs.Hall.{HallState, empty, Deed, Turn, keyed_rule}
use Rattle.hall.specs.Rounds.{RoundCall, RoundTurn, round_rule}
use Rattle.demand.specs.Calls.{Call, keyed, round, no_kind, no_kind_refusal, Answer, answered, rounded, turned_away, after, answers}
use Rattle.demand.specs.Demand.{Demand3}
use Rattle.demand.specs.Fair.{Fair}
use Rattle.demand.specs.Older.{Older}

-- one call that met its promise: the hall that it got, the hall that it returned, and its answer
pub data Met : HallState → Call → Answer → HallState → Type 0 where
  keyed_met : {h : HallState} {k : ℕ} {d : Deed} (t : Turn) → t ≡ keyed_rule h k d → Met h (keyed k d) (answered t.answer) t.hall
  round_met : {h : HallState} {c : RoundCall} (t : RoundTurn) → t ≡ round_rule h c → Met h (round c) (rounded t).answer t.hall
  no_kind_met : {h : HallState} {g : ℕ} {s : Sheets} (t : RoundTurn) → t ≡ turned_away h s (no_kind_refusal g) → Met h (no_kind g s) (rounded t).answer t.hall

-- a list of such calls: the hall at first, the calls, their answers, the hall at last
pub data Run : HallState → List Call → List Answer → HallState → Type 0 where
  ended : {h : HallState} → Run h [] [] h
  called : {h k l : HallState} {c : Call} {a : Answer} {cs : List Call} {rs : List Answer} → Met h c a k → Run k cs rs l → Run h (c ∷ cs) (a ∷ rs) l

-- the answers and the hall of a run are those that demand 3 speaks of
pub record Told (h : HallState) (cs : List Call) (rs : List Answer) (l : HallState) : Type 0 where
  pub answered : rs ≡ answers h cs
  pub left : l ≡ after h cs

-- what is promised of every run from an empty hall
pub record Kept (sizes : List TeamComposition) (calls : List Call) (rs : List Answer) (l : HallState) : Type 0 where
  pub told : Told (empty sizes) calls rs l
  pub demand : Demand3 sizes calls
  -- and wherever it is cut in two, each game has its turns in the second part
  pub fair : (pre post : List Call) (g : ℕ) → calls ≡ pre ++ post → g < 8 → Fair (after (empty sizes) pre) post g

-- and of every run from a hall that is handed in
pub record KeptFrom (h : HallState) (calls : List Call) (rs : List Answer) (l : HallState) : Type 0 where
  pub told : Told h calls rs l
  -- bookings noted with their guest alone answer as before
  pub older : Older h calls
