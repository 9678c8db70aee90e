-- Document 01, "Hall (added)": the greedy, the beam and the full round; by game, and the dispatch, of document 02, 2.4.
use Rattle.std.specs.Prelude.{ℕ, ◌≡◌, Bool, false, cond, ◌||◌, List, [], ◌∷◌, ◌++◌, map, ltb, Float, length}
use Rattle.std.specs.Prelude.{Option, None, Some, unwrap_or}
use Rattle.std.specs.Float.Ieee.{lt}
use Rattle.base.specs.Floats as Floats
use Rattle.base.specs.Refusals.{Outcome, refused, gives, guarded}
use Rattle.base.specs.Lists.{any, All}
use Rattle.queue.specs.Time.{time_over}
use Rattle.queue.specs.declared.QueueEntry.{QueueEntry}
use Rattle.roster.specs.Roster.{Roster, ratings_check, deviations_check}
use Rattle.matchmaker.specs.Quality.{MatchState, quality_of}
use Rattle.objective.specs.declared.score.MatchObjective.{MatchObjective}
use Rattle.seating.specs.declared.TeamComposition.{TeamComposition}
use Rattle.seating.specs.Seating.{Sheets, HandedOut, sizes_over, are_short, seats, handed_out}
use Rattle.greedy.specs.Greedy.{greedy_matches}
use Rattle.beam.specs.Beam.{beaming, beam_matches}
use Rattle.candidate.specs.Exhaustive.{too_wide}
use Rattle.choice.specs.Full.{Terms, Selection, terms_check, chosen, score_in, passing}
use Rattle.hall.specs.declared.Booking.{Booking}
use Rattle.hall.specs.Games.{is_no_game, sizes_by, eligible_by, enough, next_game}
use Rattle.hall.specs.Hall.{HallState, awaiting, has_time_over, without_guests, entry_of, is_over}

-- how a round finds its matches, and what it brings for that
pub data Method : Type 0 where
  greedy : Roster → Method
  beam : ℕ → MatchObjective → Roster → Method
  full : Terms → Method

pub data Round : Type 0 where
  -- a round of the game that it names
  of_game : ℕ → Method → Round
  -- a greedy round of the game whose turn it is
  dispatch : Roster → Round

pub record RoundCall : Type 0 where
  pub round : Round
  pub clock : ℕ
  pub sheets : Sheets

-- this round at this clock, with these sheets
abbrev pub calling : Round → ℕ → List ℕ → List Float → RoundCall
calling r clock players qualities = record { round = r; clock = clock; sheets = record { players = players; qualities = qualities } }

abbrev pub method_of : Round → Method
method_of (of_game g m) = m
method_of (dispatch r) = greedy r

-- ---- what a method finds, with these sizes

-- refusals 1 and 2 of what is brought, beside the hall's 1
abbrev pub brought_check : Method → TeamComposition → Outcome (Unit {0})
brought_check (greedy r) s = cond (sizes_over s) (refused 1) (ratings_check r)
brought_check (beam width o r) s = cond (sizes_over s || ltb 32 width) (refused 1) (deviations_check r)
brought_check (full t) s = terms_check t.roster t.constraints t.count s

-- refusal 6
abbrev pub too_wide_in : Method → List QueueEntry → Bool
too_wide_in (greedy r) es = false
too_wide_in (beam width o r) es = false
too_wide_in (full t) es = too_wide es

-- the matches handed out, and the number of choices tried
pub record Found : Type 0 where
  pub matches : List MatchState
  pub tried : ℕ

abbrev pub untried : Outcome (List MatchState) → Outcome Found
untried (refused n) = refused n
untried (gives ms) = gives (record { matches = ms; tried = 0 })

abbrev pub list_of : Option MatchState → List MatchState
list_of None = []
list_of (Some m) = m ∷ []

abbrev pub selected : Outcome Selection → Outcome Found
selected (refused n) = refused n
selected (gives s) = gives (record { matches = list_of s.best; tried = s.tried })

-- "A greedy or beam round runs the search; a full round filters the exhaustive list by the constraints and applies GreedySelection"
abbrev pub found_by : Method → TeamComposition → ℕ → List QueueEntry → Outcome Found
found_by (greedy r) s clock es = gives (record { matches = greedy_matches s r es; tried = 0 })
found_by (beam width o r) s clock es = untried (beam_matches (beaming s width o r es clock) es)
found_by (full t) s clock es = selected (chosen t s es)

-- the quality of a match; "Full rounds .. give quality 0.0"
abbrev pub quality_by : Method → MatchState → Float
quality_by (greedy r) m = quality_of r m.a.players m.b.players
quality_by (beam width o r) m = quality_of r m.a.players m.b.players
quality_by (full t) m = Floats.zero

-- 1, 2, 3, 4 and 6, in that order; 4 looks at all who wait, 6 at the entries of those who may be seated
abbrev pub method_check : Method → ℕ → Sheets → TeamComposition → List QueueEntry → List Booking → Outcome (Unit {0})
method_check m clock sheets s es ws =
    guarded (brought_check m s)
    (cond (are_short (length sheets.players) (length sheets.qualities)) (refused 3)
    (cond (time_over clock || any has_time_over ws) (refused 4) (cond (too_wide_in m es) (refused 6) (gives tt))))

-- the refusal of a method over these entries, or what it finds
unfoldable pub findings : Method → ℕ → Sheets → TeamComposition → List QueueEntry → List Booking → Outcome Found
findings m clock sheets s es ws = guarded (method_check m clock sheets s es ws) (found_by m s clock es)

-- ---- the game of a round

-- does the game have enough now?
abbrev pub ready : HallState → ℕ → Bool
ready h = enough h.sizes h.waiting.bookings

-- the game that a round serves where it is not refused: "Served means that a dispatch ran its round"
abbrev pub served_by : HallState → Round → Option ℕ
served_by h (of_game g m) = None
served_by h (dispatch r) = next_game (ready h) h.served

-- the game that a round plays: the one that it names, or the one that it serves
abbrev pub game_by : Round → Option ℕ → Option ℕ
game_by (of_game g m) served = Some g
game_by (dispatch r) served = served

abbrev pub game_of : HallState → RoundCall → Option ℕ
game_of h c = game_by c.round (served_by h c.round)

-- "takes that game's sizes and entries alone"
abbrev pub sizes_in : HallState → RoundCall → TeamComposition
sizes_in h c = sizes_by h.sizes (game_of h c)

abbrev pub eligible_in : HallState → RoundCall → List Booking
eligible_in h c = eligible_by (game_of h c) h.waiting.bookings

-- as the queue that is searched
abbrev pub entries_in : HallState → RoundCall → List QueueEntry
entries_in h c = map entry_of (eligible_in h c)

-- ---- a round

-- 13 "in a round before all others"; a dispatch names no game
abbrev pub names_no_game : Round → Bool
names_no_game (of_game g m) = is_no_game g
names_no_game (dispatch r) = false

-- then the hall's own 1
abbrev pub hall_check : Bool → Bool → Outcome (Unit {0})
hall_check unknown over = cond unknown (refused 13) (cond over (refused 1) (gives tt))

-- the refusal of a round, or what it finds
abbrev pub round_found : HallState → RoundCall → Outcome Found
round_found h c =
    guarded (hall_check (names_no_game c.round) (is_over h))
    (findings (method_of c.round) c.clock c.sheets (sizes_in h c) (entries_in h c) h.waiting.bookings)

-- "The answer names the game served or none"
pub record RoundTurn : Type 0 where
  pub hall : HallState
  pub handed : HandedOut
  pub tried : ℕ
  pub served : Option ℕ

abbrev pub matches_in : Outcome Found → Outcome (List MatchState)
matches_in (refused n) = refused n
matches_in (gives f) = gives f.matches

-- none where the round is refused
abbrev pub matches_from : Outcome Found → List MatchState
matches_from (refused n) = []
matches_from (gives f) = f.matches

abbrev pub tried_in : Outcome Found → ℕ
tried_in (refused n) = 0
tried_in (gives f) = f.tried

abbrev pub served_in : Option ℕ → Outcome Found → Option ℕ
served_in served (refused n) = None
served_in served (gives f) = served

-- "Seated guests leave by remove_batch", with every booking of theirs, of whatever game. The game served is the last one served; where none
-- is, that stays. A refused round changes nothing.
abbrev pub departing : HallState → Option ℕ → Outcome Found → HallState
departing h served (refused n) = h
departing h served (gives f) =
    record {
      waiting = awaiting (without_guests (seats f.matches) h.waiting.bookings);
      log = h.log;
      sizes = h.sizes;
      served = unwrap_or served h.served;
    }

-- the turn of a round that found this
abbrev pub turn_from : HallState → RoundCall → Outcome Found → RoundTurn
turn_from h c o =
    record {
      hall = departing h (served_by h c.round) o;
      handed = handed_out (quality_by (method_of c.round)) (matches_in o) c.sheets;
      tried = tried_in o;
      served = served_in (served_by h c.round) o;
    }

abbrev pub round_rule : HallState → RoundCall → RoundTurn
round_rule h c = turn_from h c (round_found h c)

-- ---- the matches of a full round

-- a full round not refused: at most one match; one exactly when some choice passes; the match is a passing choice, and no passing
-- choice scores higher
pub data FullRound (t : Terms) (s : TeamComposition) (es : List QueueEntry) : List MatchState → Type 0 where
  none_passes : passing t s es ≡ [] → FullRound t s es []
  best : (m : MatchState) (before behind : List MatchState) → passing t s es ≡ before ++ (m ∷ behind) →
      All (λ x. lt (score_in t m) (score_in t x) ≡ false) (passing t s es) → FullRound t s es (m ∷ [])
