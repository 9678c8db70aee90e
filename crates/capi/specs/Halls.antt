-- What the exported calls of the hall answer.
use Rattle.std.specs.Prelude.{ℕ, ◌≡◌, cond, List, Float, take}
use Rattle.base.specs.Lists.{any}
use Rattle.base.specs.Numbers.{value_or, outcome_in}
use Rattle.roster.specs.Roster.{Roster}
use Rattle.seating.specs.Seating.{Sheets}
use Rattle.choice.specs.Full.{terms}
use Rattle.hall.specs.Hall.{HallState, hall_of, Turn}
use Rattle.hall.specs.Games.{game_in}
use Rattle.hall.specs.Rounds.{full, of_game, RoundCall, RoundTurn, round_rule}
use Rattle.demand.specs.Calls.{turned_away, no_kind_refusal}
use Rattle.capi.specs.Rules.{constraints_of}
use Rattle.capi.specs.Scores.{is_no_kind, softs_of}
use Rattle.capi.specs.Searches.{sheets}
use Rattle.capi.specs.declared.halls.Keyed.{Keyed}
use Rattle.capi.specs.declared.halls.Rounded.{Rounded}
use Rattle.capi.specs.declared.halls.RoundRules.{RoundRules}
use Rattle.capi.specs.declared.scores.SoftObjectives.{SoftObjectives}

-- ---- bookings and withdrawals

-- the turn that the numbers tell, so that an export promises the hall's own rule
abbrev pub turn_in : Keyed → Turn
turn_in k = record { hall = hall_of k.hall; answer = outcome_in k.refusal tt }

-- ---- rounds

-- the turn that the numbers tell, beside the final content of the sheets
abbrev pub round_in : Rounded → List ℕ → List Float → RoundTurn
round_in r players qualities =
    record {
      hall = hall_of r.hall;
      handed = record { answer = outcome_in r.refusal r.count; sheets = sheets players qualities };
      tried = r.tried;
      served = game_in r.served;
    }

-- the numbers tell this turn; the count, which a refusal hides from it, is 0 there
pub record RoundNumbers (t : RoundTurn) (r : Rounded) (players : List ℕ) (qualities : List Float) : Type 0 where
  pub turn : round_in r players qualities ≡ t
  pub count : r.count ≡ value_or 0 t.handed.answer

-- ---- the full round

-- the call of the hall that an exported full round stands for
abbrev pub full_call : ℕ → RoundRules → SoftObjectives → ℕ → Roster → Sheets → RoundCall
full_call g rules o clock r s =
    record {
      round = of_game g (full (terms r (constraints_of rules.constraints) rules.waiting_friends (softs_of o.kinds o.weights) o.len));
      clock = clock;
      sheets = s;
    }

-- a soft kind that is none, or the round
abbrev pub full_rule : HallState → ℕ → SoftObjectives → RoundCall → RoundTurn
full_rule h g o c = cond (any is_no_kind (take o.len o.kinds)) (turned_away h c.sheets (no_kind_refusal g)) (round_rule h c)
