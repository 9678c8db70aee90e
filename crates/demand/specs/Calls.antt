-- Document 01, "Hall (added)", with the dispatches of document 02, 2.4, and the resends of 2.5: lists of calls, their originals and resends,
-- and the numbers that demand 3 speaks of.
use Rattle.std.specs.Prelude.{ℕ, ◌+◌, Bool, true, false, cond, ◌&&◌, List, [], ◌∷◌, ◌++◌, eqb, ltb, length}
use Rattle.std.specs.Prelude.{Option, None, Some}
use Rattle.base.specs.Refusals.{Outcome, refused, gives}
use Rattle.base.specs.Lists.{seek, member}
use Rattle.matchmaker.specs.Quality.{MatchState}
use Rattle.seating.specs.declared.TeamComposition.{TeamComposition}
use Rattle.seating.specs.Seating.{Sheets, HandedOut, seats, told_by}
use Rattle.hall.specs.declared.Booking.{Booking}
use Rattle.hall.specs.Hall.{HallState, without_guest, without_guests, Deed, book, withdraw, same, Signature, signed, keyed_rule}
use Rattle.hall.specs.Games.{is_no_game, sizes_by}
use Rattle.hall.specs.Rounds.{Round, of_game, dispatch, RoundCall, RoundTurn, game_by, round_rule}

-- ---- the calls

-- "keyed bookings, keyed withdrawals and greedy, beam and full rounds", and dispatches
pub data Call : Type 0 where
  keyed : ℕ → Deed → Call
  round : RoundCall → Call
  -- a full round brought in numbers, one of whose soft kinds is none: just its game and its sheets matter
  no_kind : ℕ → Sheets → Call

-- ---- what they do

-- "An answer is what a call gives besides the hall, with the final content of its sheets": of a round the matches, the number of choices
-- tried, and the game that it served, if it did
pub data Answer : Type 0 where
  answered : Outcome (Unit {0}) → Answer
  handed : HandedOut → ℕ → Option ℕ → Answer

pub record Step : Type 0 where
  pub hall : HallState
  pub answer : Answer

-- a round that is refused and changes nothing
abbrev pub turned_away : HallState → Sheets → ℕ → RoundTurn
turned_away h s n = record { hall = h; handed = record { answer = refused n; sheets = s }; tried = 0; served = None }

-- a soft kind that is none: 1, behind 13
abbrev pub no_kind_refusal : ℕ → ℕ
no_kind_refusal g = cond (is_no_game g) 13 1

-- the step of a round
abbrev pub rounded : RoundTurn → Step
rounded t = record { hall = t.hall; answer = handed t.handed t.tried t.served }

unfoldable pub step : HallState → Call → Step
step h (keyed k d) = record { hall = (keyed_rule h k d).hall; answer = answered (keyed_rule h k d).answer }
step h (round c) = rounded (round_rule h c)
step h (no_kind g s) = rounded (turned_away h s (no_kind_refusal g))

-- "Each call takes the hall as the one before returned or left it"
abbrev pub after : HallState → List Call → HallState
after h [] = h
after h (c ∷ cs) = after (step h c).hall cs

abbrev pub answers : HallState → List Call → List Answer
answers h [] = []
answers h (c ∷ cs) = (step h c).answer ∷ answers (step h c).hall cs

-- ---- originals and resends, by the calls of the list alone; `o` are the originals so far

pub data Mark : Type 0 where
  original : Mark
  resend : Mark
  other : Mark

-- "An original is the first call with its key, for the first 1,024 different keys in the list. A resend is a later call with an
-- original's key", "equal in this finer way"
abbrev pub mark_by : ℕ → Signature → Option Signature → Mark
mark_by n s None = cond (ltb n 1024) original other
mark_by n s (Some t) = cond (same t.content s.content) resend other

unfoldable pub mark_of : List Signature → Signature → Mark
mark_of o s = mark_by (length o) s (seek (λ t. eqb t.key s.key) Some None o)

abbrev pub grow_by : List Signature → Signature → Mark → List Signature
grow_by o s original = o ++ (s ∷ [])
grow_by o s resend = o
grow_by o s other = o

abbrev pub mark : List Signature → Call → Mark
mark o (keyed k d) = mark_of o (signed k d)
mark o (round c) = other
mark o (no_kind g s) = other

abbrev pub grow : List Signature → Call → List Signature
grow o (keyed k d) = grow_by o (signed k d) (mark_of o (signed k d))
grow o (round c) = o
grow o (no_kind g s) = o

abbrev pub originals : List Signature → List Call → List Signature
originals o [] = o
originals o (c ∷ cs) = originals (grow o c) cs

abbrev pub is_original : Mark → Bool
is_original original = true
is_original resend = false
is_original other = false

abbrev pub is_resend : Mark → Bool
is_resend original = false
is_resend resend = true
is_resend other = false

-- of the calls that a choice names, the resends
abbrev pub leave : List Bool → List Signature → List Call → List Bool
leave m o [] = []
leave [] o (c ∷ cs) = []
leave (b ∷ m) o (c ∷ cs) = (b && is_resend (mark o c)) ∷ leave m (grow o c) cs

-- a list without the places named
abbrev pub thin : {A : Type 0} → List Bool → List A → List A
thin m [] = []
thin [] (x ∷ xs) = x ∷ xs
thin (b ∷ m) (x ∷ xs) = cond b (thin m xs) (x ∷ thin m xs)

-- ---- the keys of a list, in the paper's own words

abbrev pub keys_of : List Call → List ℕ
keys_of [] = []
keys_of (keyed k d ∷ cs) = k ∷ keys_of cs
keys_of (round c ∷ cs) = keys_of cs
keys_of (no_kind g s ∷ cs) = keys_of cs

-- the different members of a list, behind those already seen
unfoldable pub different : List ℕ → List ℕ → List ℕ
different seen [] = seen
different seen (k ∷ ks) = different (cond (member k seen) seen (seen ++ (k ∷ []))) ks

-- ---- matches, as the answer and the guests' sheet of a round tell them, by the sizes that the empty hall was given

-- the game that an answer says was served
abbrev pub served_of : Answer → Option ℕ
served_of (answered a) = None
served_of (handed h tried served) = served

abbrev pub matches_handed : List TeamComposition → Call → Answer → List MatchState
matches_handed sizes (keyed k d) a = []
matches_handed sizes (round c) (answered a) = []
matches_handed sizes (round c) (handed h tried served) = told_by (sizes_by sizes (game_by c.round served)) h
matches_handed sizes (no_kind g s) a = []

-- ---- the numbers

abbrev pub taken : Answer → Bool
taken (answered (refused n)) = false
taken (answered (gives u)) = true
taken (handed h tried served) = false

abbrev pub is_booking : Call → Bool
is_booking (keyed k (book b)) = true
is_booking (keyed k (withdraw p)) = false
is_booking (round c) = false
is_booking (no_kind g s) = false

abbrev pub is_withdrawal : Call → Bool
is_withdrawal (keyed k (book b)) = false
is_withdrawal (keyed k (withdraw p)) = true
is_withdrawal (round c) = false
is_withdrawal (no_kind g s) = false

abbrev pub one_if : Bool → ℕ
one_if true = 1
one_if false = 0

-- "Accepted and withdrawn count the original bookings and the original withdrawals not refused"
abbrev pub accepted_in : List Signature → List Call → List Answer → ℕ
accepted_in o [] rs = 0
accepted_in o (c ∷ cs) [] = 0
accepted_in o (c ∷ cs) (a ∷ rs) = one_if (is_original (mark o c) && (is_booking c && taken a)) + accepted_in (grow o c) cs rs

abbrev pub withdrawn_in : List Signature → List Call → List Answer → ℕ
withdrawn_in o [] rs = 0
withdrawn_in o (c ∷ cs) [] = 0
withdrawn_in o (c ∷ cs) (a ∷ rs) = one_if (is_original (mark o c) && (is_withdrawal c && taken a)) + withdrawn_in (grow o c) cs rs

-- "seated adds up the guests of each match", of all games
abbrev pub seated_in : List TeamComposition → List Call → List Answer → ℕ
seated_in sizes [] rs = 0
seated_in sizes (c ∷ cs) [] = 0
seated_in sizes (c ∷ cs) (a ∷ rs) = length (seats (matches_handed sizes c a)) + seated_in sizes cs rs

-- ---- dispatches

abbrev pub is_dispatch : Round → Bool
is_dispatch (of_game g m) = false
is_dispatch (dispatch r) = true

abbrev pub is_given : Outcome ℕ → Bool
is_given (refused n) = false
is_given (gives n) = true

-- is this call a dispatch not refused?
abbrev pub dispatches : Call → Answer → Bool
dispatches (keyed k d) a = false
dispatches (round c) (answered a) = false
dispatches (round c) (handed h tried served) = is_dispatch c.round && is_given h.answer
dispatches (no_kind g s) a = false

abbrev pub dispatches_in : List Call → List Answer → ℕ
dispatches_in [] rs = 0
dispatches_in (c ∷ cs) [] = 0
dispatches_in (c ∷ cs) (a ∷ rs) = one_if (dispatches c a) + dispatches_in cs rs

-- ---- who waits, by the calls and their answers alone: "from an original booking of him not refused until an original withdrawal of
-- him not refused or a match that seats him .. in the order booked"

abbrev pub moved : List TeamComposition → Bool → Call → Answer → List Booking → List Booking
moved sizes true (keyed k (book b)) a ws = ws ++ (b ∷ [])
moved sizes true (keyed k (withdraw p)) a ws = without_guest p ws
moved sizes false (keyed k (book b)) a ws = ws
moved sizes false (keyed k (withdraw p)) a ws = ws
moved sizes t (round c) a ws = without_guests (seats (matches_handed sizes (round c) a)) ws
moved sizes t (no_kind g s) a ws = ws

abbrev pub replay : List TeamComposition → List Signature → List Booking → List Call → List Answer → List Booking
replay sizes o ws [] rs = ws
replay sizes o ws (c ∷ cs) [] = ws
replay sizes o ws (c ∷ cs) (a ∷ rs) = replay sizes (grow o c) (moved sizes (is_original (mark o c) && taken a) c a ws) cs rs
