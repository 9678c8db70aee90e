-- Document 01, "At the table": the starred lines, as one theorem that ranges over a list of them; and lines of document 02.
use Rattle.std.specs.Prelude.{ℕ, ◌-◌, ◌≡◌, Bool, true, false, List, [], ◌∷◌, ◌++◌, map, Float, length, take, replicate}
use Rattle.std.specs.Prelude.{Option, None, Some}
use Rattle.std.specs.Float.{nan, inf, binary64}
use Rattle.std.specs.Float.Ieee.{of_bits}
use Rattle.base.specs.Floats.{zero, one}
use Rattle.base.specs.Refusals.{Outcome, refused, gives}
use Rattle.queue.specs.declared.QueueEntry.{QueueEntry}
use Rattle.roster.specs.Roster.{Roster, of_ratings}
use Rattle.matchmaker.specs.Quality.{MatchState, four_hundred, quality_at, quality_of}
use Rattle.objective.specs.Pareto.{dominates_of, zeros}
use Rattle.objective.specs.declared.score.MatchObjective.{MatchObjective}
use Rattle.objective.specs.declared.soft.SoftObjective.{SoftObjective}
use Rattle.objective.specs.declared.soft.SoftObjective.TheVariants.{Wait}
use Rattle.objective.specs.declared.pareto.MatchObjectiveVector.{MatchObjectiveVector}
use Rattle.seating.specs.declared.TeamComposition.{TeamComposition}
use Rattle.seating.specs.Seating.{Sheets, lineup}
use Rattle.constraint.specs.declared.Constraints.{Constraints}
use Rattle.candidate.specs.Exhaustive.{exhaustive_matches}
use Rattle.choice.specs.Full.{terms, chosen}
use Rattle.hall.specs.declared.Booking.{Booking}
use Rattle.hall.specs.Games.{unused, circle}
use Rattle.hall.specs.Hall.{HallState, awaiting, guest_alone, KeyRecord, logging, empty, book, withdraw}
use Rattle.hall.specs.Rounds as Rounds
use Rattle.hall.specs.Rounds.{of_game, dispatch, calling, findings}
use Rattle.demand.specs.Calls as Calls
use Rattle.demand.specs.Calls.{Call, keyed, Answer, answered, handed, step, after, answers, mark_of, leave, thin, served_of}
use Rattle.demand.specs.Runs.{Told}
use Rattle.beam.specs.Beam.{beaming, beam_matches}
use Rattle.greedy.specs.Greedy.{nearest, greedy_matches}

-- 100.0, 0.75, and the ratings of the table's guests and of the entries about 1000; a booking brings the bits
abbrev hundred : Float
hundred = of_bits binary64 0x4059_0000_0000_0000

abbrev three_quarters : Float
three_quarters = of_bits binary64 0x3fe8_0000_0000_0000

abbrev thousand_bits : ℕ
thousand_bits = 0x408f_4000_0000_0000

abbrev thousand : Float
thousand = of_bits binary64 thousand_bits

abbrev r1280 : Float
r1280 = of_bits binary64 0x4094_0000_0000_0000

abbrev r1010 : Float
r1010 = of_bits binary64 0x408f_9000_0000_0000

abbrev r1090 : Float
r1090 = of_bits binary64 0x4091_0800_0000_0000

abbrev r990 : Float
r990 = of_bits binary64 0x408e_f000_0000_0000

-- an entry of a guest with a rating, who joined at a time, or at 0, with no party and no role
abbrev joining : ℕ → ℕ → Float → QueueEntry
joining joined player rating = record { player = player; joined = joined; rating = rating; party = 0; role = 0 }

abbrev entry : ℕ → Float → QueueEntry
entry = joining 0

-- "Guests 1 to 4, ratings 1000, 1280, 1010, 1090, all rostered."
abbrev guests : List QueueEntry
guests = entry 1 thousand ∷ entry 2 r1280 ∷ entry 3 r1010 ∷ entry 4 r1090 ∷ []

abbrev rostered : Roster
rostered = of_ratings (1 ∷ 2 ∷ 3 ∷ 4 ∷ []) (thousand ∷ r1280 ∷ r1010 ∷ r1090 ∷ [])

abbrev sizes : ℕ → ℕ → TeamComposition
sizes a b = record { a = a; b = b }

abbrev pair : ℕ → ℕ → MatchState
pair p q = lineup (p ∷ []) (q ∷ [])

abbrev solo : ℕ → MatchState
solo p = lineup (p ∷ []) []

-- the quality's weight is 1.0, the others are 0.0
abbrev by_quality : MatchObjective
by_quality = record { quality = one; wait = zero; ping = zero; uncertainty = zero }

-- the party kind is brought or not, and no other constraint
abbrev constrained : Bool → Constraints
constrained parties =
    record {
      brought = record { sizes = false; roles = false; parties = parties; latency = false; regions = false };
      sizes = record { a = 0; b = 0 };
      roles = record { requirements = []; count = 0 };
      regions = record { pairs = []; count = 0 };
    }

abbrev unconstrained : Constraints
unconstrained = constrained false

-- guests 1, 2 and 4 are rostered as party 7, and 4 stayed at home; 1, 2 and 3 wait, the first two with this party
abbrev household : Roster
household =
    record {
      ids = 1 ∷ 2 ∷ 3 ∷ 4 ∷ [];
      ratings = replicate 4 thousand;
      deviations = [];
      parties = 7 ∷ 7 ∷ 0 ∷ 7 ∷ [];
      roles = replicate 4 0;
      regions = replicate 4 4;
    }

abbrev coming : ℕ → ℕ → QueueEntry
coming party player = record { player = player; joined = 0; rating = thousand; party = party; role = 0 }

abbrev came : ℕ → List QueueEntry
came party = coming party 1 ∷ coming party 2 ∷ coming 0 3 ∷ []

-- a guest of rating 1000 who waits for a game, or for game 0, and the booking under a key
abbrev waiter_for : ℕ → ℕ → Booking
waiter_for game player = record { player = player; joined = 0; rating_bits = thousand_bits; party = 0; role = 0; game = game }

abbrev waiter : ℕ → Booking
waiter = waiter_for 0

abbrev booking_for : ℕ → ℕ → ℕ → Call
booking_for game key player = keyed key (book (waiter_for game player))

abbrev booking : ℕ → ℕ → Call
booking = booking_for 0

abbrev withdrawal : ℕ → ℕ → Call
withdrawal key player = keyed key (withdraw player)

-- bookings that are all sent under key 1
abbrev sending : List Booking → List Call
sending = map (λ b. keyed 1 (book b))

-- guest 1 for game 0, with a joined time, rating bits, party and role; or just the first or the second of these, the others as in `waiter 1`
abbrev bringing : ℕ → ℕ → ℕ → ℕ → Booking
bringing joined bits party role = record { player = 1; joined = joined; rating_bits = bits; party = party; role = role; game = 0 }

abbrev joined_at : ℕ → Booking
joined_at joined = bringing joined thousand_bits 0 0

abbrev rated : ℕ → Booking
rated bits = bringing 0 bits 0 0

-- just one field differs from `waiter 1`: guest, game, joined time, rating bits, party, role
abbrev changed : List Booking
changed =
    waiter 2 ∷ waiter_for 1 1 ∷ joined_at 1 ∷ rated 0x408f_4000_0000_0001 ∷ bringing 0 thousand_bits 7 0 ∷ bringing 0 thousand_bits 0 3 ∷ []

-- sheets of 64 places, of which some are written and the others hold what they held before: guest 0 and 0.0
abbrev sheet : {A : Type 0} → List A → A → List A
sheet row blank = row ++ replicate (64 - length row) blank

abbrev sheets : List ℕ → List Float → Sheets
sheets players qualities = record { players = sheet players 0; qualities = sheet qualities zero }

-- the answer of a keyed call that is accepted
abbrev accepted : Answer
accepted = answered (gives tt)

-- the answer of a round that hands out so many matches: what it wrote, how many choices it tried, and the game that it served
abbrev handing : ℕ → List ℕ → List Float → ℕ → Option ℕ → Answer
handing n players qualities tried served = handed (record { answer = gives n; sheets = sheets players qualities }) tried served

-- game 0 is of 1+1, and the others are not used
abbrev pub one_game : List TeamComposition
one_game = sizes 1 1 ∷ replicate 7 unused

-- games 0 and 3 are of 1+1, game 5 is of 0+1, and the others are not used
abbrev pub three_games : List TeamComposition
three_games = sizes 1 1 ∷ unused ∷ unused ∷ sizes 1 1 ∷ unused ∷ sizes 0 1 ∷ unused ∷ unused ∷ []

-- eight games of one guest each
abbrev solo_games : List TeamComposition
solo_games = replicate 8 (sizes 1 0)

-- a greedy round of game 0 among guests who are all rated 1000, and its answer: one match
abbrev pairing : Call
pairing =
    Calls.round (calling (of_game 0 (Rounds.greedy (of_ratings (1 ∷ 2 ∷ 3 ∷ 4 ∷ []) (replicate 4 thousand)))) 0 (sheet [] 0) (sheet [] zero))

abbrev paired_in : Option ℕ → ℕ → ℕ → Answer
paired_in served p q = handing 1 (p ∷ q ∷ []) (one ∷ []) 0 served

abbrev paired : ℕ → ℕ → Answer
paired = paired_in None

-- a dispatch among such guests
abbrev dispatching : Call
dispatching =
    Calls.round (calling (dispatch (of_ratings (1 ∷ 2 ∷ 3 ∷ 4 ∷ 5 ∷ 6 ∷ []) (replicate 6 thousand))) 0 (sheet [] 0) (sheet [] zero))

-- a full round of a game by the wait objective only, and its answer: one match, of quality 0.0, after so many choices
abbrev choosing_for : ℕ → Call
choosing_for game =
    Calls.round
    (calling
    (of_game game
    (Rounds.full
    (terms (record { ids = 1 ∷ 2 ∷ 3 ∷ []; ratings = replicate 3 thousand; deviations = []; parties = replicate 3 0; roles = replicate 3 0; regions = replicate 3 4 }) unconstrained false (Wait one ∷ []) 1)))
    0 (sheet [] 0) (sheet [] zero))

abbrev chose : List ℕ → ℕ → Answer
chose players n = handing 1 players (zero ∷ []) n None

-- the refusal of a round, which writes nothing
abbrev turned_down : ℕ → Answer
turned_down n = handed (record { answer = refused n; sheets = sheets [] [] }) 0 None

-- the note of a call: answer, key, kind and what it holds
abbrev noted_as : ℕ → ℕ → ℕ → Booking → KeyRecord
noted_as answer key kind held = record { key = key; content = record { kind = kind; held = held }; answer = answer }

-- of a booking for a game, or for game 0, that was accepted; of a withdrawal that was
abbrev noted_for : ℕ → ℕ → ℕ → KeyRecord
noted_for game key player = noted_as 0 key 0 (waiter_for game player)

abbrev noted : ℕ → ℕ → KeyRecord
noted = noted_for 0

abbrev withdrawn : ℕ → ℕ → KeyRecord
withdrawn key player = noted_as 0 key 1 (guest_alone player)

-- the hall with these sizes, this last game served, these bookings and these notes
abbrev leaving : List TeamComposition → ℕ → List Booking → List KeyRecord → HallState
leaving sizes served ws rs = record { waiting = awaiting ws; log = logging rs; sizes = sizes; served = served }

-- the story of a phone that resends two bookings after a withdrawal and a round, in two parts: up to the round, and from there on
abbrev pub phoning : List Call
phoning = booking 1 1 ∷ booking 2 2 ∷ booking 3 3 ∷ withdrawal 4 3 ∷ pairing ∷ []

abbrev pub phoning_on : List Call
phoning_on = booking 1 1 ∷ booking 3 3 ∷ booking 5 1 ∷ booking 6 4 ∷ pairing ∷ []

-- what each of these calls answers, and the hall in between and at the end
abbrev pub phoned : List Answer
phoned = accepted ∷ accepted ∷ accepted ∷ accepted ∷ paired 1 2 ∷ []

abbrev pub phoned_on : List Answer
phoned_on = accepted ∷ accepted ∷ accepted ∷ accepted ∷ paired 1 4 ∷ []

abbrev pub phoned_hall : HallState
phoned_hall = leaving one_game 255 [] (noted 1 1 ∷ noted 2 2 ∷ noted 3 3 ∷ withdrawn 4 3 ∷ [])

abbrev pub phoned_end : HallState
phoned_end = leaving one_game 255 [] (noted 1 1 ∷ noted 2 2 ∷ noted 3 3 ∷ withdrawn 4 3 ∷ noted 5 1 ∷ noted 6 4 ∷ [])

-- which of the calls of the second part are resends
abbrev pub phone_again : List Bool
phone_again = true ∷ true ∷ false ∷ false ∷ false ∷ []

-- the story of two games in their turn, in three parts: though game 0 has enough again, game 3 is served before it
abbrev pub circling : List Call
circling = booking_for 3 1 1 ∷ booking_for 3 2 2 ∷ booking 3 3 ∷ booking 4 4 ∷ dispatching ∷ []

abbrev pub circling_on : List Call
circling_on = booking 5 5 ∷ booking 6 6 ∷ dispatching ∷ []

abbrev pub circling_last : List Call
circling_last = dispatching ∷ dispatching ∷ []

abbrev pub circled : List Answer
circled = accepted ∷ accepted ∷ accepted ∷ accepted ∷ paired_in (Some 0) 3 4 ∷ []

abbrev pub circled_on : List Answer
circled_on = accepted ∷ accepted ∷ paired_in (Some 3) 1 2 ∷ []

abbrev pub circled_last : List Answer
circled_last = paired_in (Some 0) 5 6 ∷ handing 0 [] [] 0 None ∷ []

abbrev pub circled_hall : HallState
circled_hall = leaving three_games 0 (waiter_for 3 1 ∷ waiter_for 3 2 ∷ []) (noted_for 3 1 1 ∷ noted_for 3 2 2 ∷ noted 3 3 ∷ noted 4 4 ∷ [])

abbrev pub circled_hall_on : HallState
circled_hall_on =
    leaving three_games 3 (waiter 5 ∷ waiter 6 ∷ []) (noted_for 3 1 1 ∷ noted_for 3 2 2 ∷ noted 3 3 ∷ noted 4 4 ∷ noted 5 5 ∷ noted 6 6 ∷ [])

abbrev pub circled_end : HallState
circled_end = leaving three_games 0 [] (noted_for 3 1 1 ∷ noted_for 3 2 2 ∷ noted 3 3 ∷ noted 4 4 ∷ noted 5 5 ∷ noted 6 6 ∷ [])

-- which calls of a list are resends
abbrev pub resends : List Call → List Bool
resends cs = leave (replicate (length cs) true) [] cs

pub data Line : Type 0 where
  -- a difference of averages, and its quality
  difference : Float → Float → Line
  -- a vector against itself
  equal_vectors : MatchObjectiveVector → Line
  -- greedy search by these sizes among the table's guests: the matches and their qualities
  greedy : TeamComposition → List MatchState → List Float → Line
  -- beam search by these sizes and this width among the table's guests, by quality alone: what it gives
  beam : TeamComposition → ℕ → Outcome (List MatchState) → Line
  -- the exhaustive listing of some guests by these sizes
  exhaustive : TeamComposition → List QueueEntry → List MatchState → Line
  -- a full round's choice of some guests by these sizes, nothing brought but these objectives: the match and the number tried
  full : TeamComposition → List QueueEntry → List SoftObjective → MatchState → ℕ → Line
  -- a full round's choice 1+1 by the wait objective only of those who came with this party, parties brought or not, waiting friends
  -- brought or not: the match, if there is one
  at_home : ℕ → Bool → Bool → Option MatchState → Line
  -- keyed calls from an empty hall of one game: what each answers, and how many wait at the end
  calls : List Call → List (Outcome (Unit {0})) → ℕ → Line
  -- calls from an empty hall with these sizes: which of them are resends, what each answers, and the hall at the end
  story : List TeamComposition → List Call → List Bool → List Answer → HallState → Line
  -- keyed calls from a hall that is handed in: what each answers, and the hall is the same at the end
  stays : HallState → List Call → List (Outcome (Unit {0})) → Line
  -- the games in their turn after the last one served
  turns : ℕ → List ℕ → Line
  -- calls from an empty hall with these sizes, and dispatches behind them: which game each of these serves
  serves : List TeamComposition → List Call → List Call → List (Option ℕ) → Line
  -- the entry picked for a reference rating
  pick : Float → List QueueEntry → QueueEntry → Line

-- what a line says
abbrev pub Holds : Line → Type 0
Holds (difference d q) = quality_at d ≡ q
Holds (equal_vectors v) = dominates_of v v ≡ false
Holds (greedy s ms qs) = (greedy_matches s rostered guests ≡ ms) × (map (λ m. quality_of rostered m.a.players m.b.players) ms ≡ qs)
Holds (beam s width o) = beam_matches (beaming s width by_quality rostered guests 0) guests ≡ o
Holds (exhaustive s queue ms) = exhaustive_matches s queue ≡ ms
Holds (full s queue os m n) = chosen (terms rostered unconstrained false os (length os)) s queue ≡ gives (record { best = Some m; tried = n })
Holds (at_home party parties friends best) = chosen (terms household (constrained parties) friends (Wait one ∷ []) 1) (sizes 1 1) (came party) ≡ gives (record { best = best; tried = 3 })
Holds (calls cs os n) = (answers (empty one_game) cs ≡ map answered os) × (length (after (empty one_game) cs).waiting.bookings ≡ n)
Holds (story sizes cs rs os h) = (resends cs ≡ rs) × (Told (empty sizes) cs os h × Told (empty sizes) (thin rs cs) (thin rs os) h)
Holds (stays h cs os) = Told h cs (map answered os) h
Holds (turns last games) = circle last ≡ games
Holds (serves sizes cs ds os) = map served_of (answers (after (empty sizes) cs) ds) ≡ os
Holds (pick reference queue e) = nearest reference [] queue ≡ Some e

-- "Differences 0, 100, 400, NaN: 1.0, 0.75, 0.0, 0.0." "Equal vectors do not dominate." "Greedy 2+2: A {1, 4}, B {3, 2}, quality
-- 0.75." "Greedy 0+1: none." "Beam width 0: 1+1 none; 1+0 one match a guest." "Exhaustive 2+2: A {1, 2}, B {3, 4} only."
-- "Exhaustive 1+1 of guests 1, 2, 3: (1,2), (1,3), (2,3)." "Full round on those, wait objective only: (2,3), tried 3.": of the choice, and of the
-- hall's round after three bookings, whose sheets it writes and whose seated leave.
-- "Booking key 7 guest 1 accepted; again: accepted, one waiting; key 7 guest 2: 7; key 8 guest 1: 9."
-- "Reference 1000, entries 1010 then 990: 1010."; document 02, 2.2: "the case of 1010 then 990 has equal" joined times. Where the one of
-- 990 joined earlier it goes first; a nearer one goes first whenever it joined; a rating of NaN or infinity never.
-- Document 02, 2.3: a friend who never came blocks his party by the party kind, and not by waiting friends, which go by the entries alone.
-- The beam of width 4 is no line of the paper, but tells wrong turns apart. Nor is
-- the story of the phone, among guests who are rated alike: each resend gets the answer that it got, nobody waits for it, and no table is
-- played one short; without the resends all else is the same.
-- Document 02, 2.4: "the first dispatch begins at game 0", and the last game served comes eighth: it is served again only behind the
-- others. A game of 0+1 is served and forms nothing. Eight games that all have enough take eight dispatches, so fewer are not enough for
-- the last of them. Refusal 13 of a booking is noted, and its resend gets it; 9 looks at all games. An unused game takes
-- bookings, and its full round hands out the empty match, one choice tried; a round of no game gets 13.
-- Document 02, 2.5: the same booking again gets its answer, and 7 where just one of the six fields differs; "Both zeros differ here, and so do
-- two NaNs with other bits." A refused booking's key stands for all of it too: corrected it gets 7, and so does a known key's booking for
-- no game or at a late time. A note of kind 2, in a hall handed in where a guest may wait twice, tells its answer to whatever its guest books,
-- and 7 to another guest and to a withdrawal.
abbrev pub lines : List Line
lines =
    difference zero one
    ∷ difference hundred three_quarters
    ∷ difference four_hundred zero
    ∷ difference nan zero
    ∷ equal_vectors zeros
    ∷ equal_vectors (record { skill = one; role = hundred; latency = nan; party = three_quarters; wait = hundred; utilization = nan })
    ∷ greedy (sizes 2 2) (lineup (1 ∷ 4 ∷ []) (3 ∷ 2 ∷ []) ∷ []) (three_quarters ∷ [])
    ∷ greedy (sizes 0 1) [] []
    ∷ beam (sizes 1 1) 0 (gives [])
    ∷ beam (sizes 1 0) 0 (gives (solo 1 ∷ solo 2 ∷ solo 3 ∷ solo 4 ∷ []))
    ∷ beam (sizes 2 2) 4 (gives (lineup (1 ∷ 2 ∷ []) (4 ∷ 3 ∷ []) ∷ []))
    ∷ exhaustive (sizes 2 2) guests (lineup (1 ∷ 2 ∷ []) (3 ∷ 4 ∷ []) ∷ [])
    ∷ exhaustive (sizes 1 1) (take 3 guests) (pair 1 2 ∷ pair 1 3 ∷ pair 2 3 ∷ [])
    ∷ full (sizes 1 1) (take 3 guests) (Wait one ∷ []) (pair 2 3) 3
    ∷ story one_game
    (booking 1 1 ∷ booking 2 2 ∷ booking 3 3 ∷ choosing_for 0 ∷ [])
    (false ∷ false ∷ false ∷ false ∷ [])
    (accepted ∷ accepted ∷ accepted ∷ chose (2 ∷ 3 ∷ []) 3 ∷ [])
    (leaving one_game 255 (waiter 1 ∷ []) (noted 1 1 ∷ noted 2 2 ∷ noted 3 3 ∷ []))
    ∷ calls (booking 7 1 ∷ []) (gives tt ∷ []) 1
    ∷ calls (booking 7 1 ∷ booking 7 1 ∷ []) (gives tt ∷ gives tt ∷ []) 1
    ∷ calls (booking 7 1 ∷ booking 7 2 ∷ []) (gives tt ∷ refused 7 ∷ []) 1
    ∷ calls (booking 7 1 ∷ booking 8 1 ∷ []) (gives tt ∷ refused 9 ∷ []) 1
    ∷ story one_game
    (phoning ++ phoning_on)
    (replicate 5 false ++ phone_again)
    (phoned ++ phoned_on)
    phoned_end
    ∷ pick thousand (entry 1 r1010 ∷ entry 2 r990 ∷ []) (entry 1 r1010)
    ∷ pick thousand (joining 5 1 r1010 ∷ joining 3 2 r990 ∷ []) (joining 3 2 r990)
    ∷ pick thousand (joining 3 1 r1010 ∷ joining 5 2 thousand ∷ []) (joining 5 2 thousand)
    ∷ pick thousand (joining 0 1 nan ∷ joining 0 2 (inf false) ∷ joining 5 3 r990 ∷ []) (joining 5 3 r990)
    ∷ at_home 7 false false (Some (pair 2 3))
    ∷ at_home 7 true false None
    ∷ at_home 7 false true (Some (pair 1 2))
    ∷ at_home 7 true true None
    ∷ at_home 0 false true (Some (pair 2 3))
    ∷ turns 255 (0 ∷ 1 ∷ 2 ∷ 3 ∷ 4 ∷ 5 ∷ 6 ∷ 7 ∷ [])
    ∷ turns 3 (4 ∷ 5 ∷ 6 ∷ 7 ∷ 0 ∷ 1 ∷ 2 ∷ 3 ∷ [])
    ∷ story three_games
    (circling ++ (circling_on ++ circling_last))
    (replicate 10 false)
    (circled ++ (circled_on ++ circled_last))
    circled_end
    ∷ story three_games
    (booking_for 5 1 1 ∷ dispatching ∷ [])
    (false ∷ false ∷ [])
    (accepted ∷ handing 0 [] [] 0 (Some 5) ∷ [])
    (leaving three_games 5 (waiter_for 5 1 ∷ []) (noted_for 5 1 1 ∷ []))
    ∷ serves solo_games
    (booking_for 0 10 1 ∷ booking_for 1 11 2 ∷ booking_for 2 12 3 ∷ booking_for 3 13 4 ∷ booking_for 4 14 5 ∷ booking_for 5 15 6 ∷ booking_for 6 16 7 ∷ booking_for 7 17 8 ∷ [])
    (replicate 9 dispatching)
    (Some 0 ∷ Some 1 ∷ Some 2 ∷ Some 3 ∷ Some 4 ∷ Some 5 ∷ Some 6 ∷ Some 7 ∷ None ∷ [])
    ∷ story one_game
    (booking_for 8 1 1 ∷ booking_for 8 1 1 ∷ booking 1 2 ∷ booking 2 1 ∷ [])
    (false ∷ true ∷ false ∷ false ∷ [])
    (answered (refused 13) ∷ answered (refused 13) ∷ answered (refused 7) ∷ accepted ∷ [])
    (leaving one_game 255 (waiter 1 ∷ []) (noted_as 13 1 0 (waiter_for 8 1) ∷ noted 2 1 ∷ []))
    ∷ calls (booking 7 1 ∷ booking_for 3 8 1 ∷ []) (gives tt ∷ refused 9 ∷ []) 1
    ∷ story one_game
    (booking_for 4 1 1 ∷ choosing_for 4 ∷ choosing_for 8 ∷ [])
    (false ∷ false ∷ false ∷ [])
    (accepted ∷ chose [] 1 ∷ turned_down 13 ∷ [])
    (leaving one_game 255 (waiter_for 4 1 ∷ []) (noted_for 4 1 1 ∷ []))
    ∷ story one_game
    (sending (waiter 1 ∷ changed ++ (waiter 1 ∷ [])))
    (replicate 7 false ++ (true ∷ []))
    (accepted ∷ replicate 6 (answered (refused 7)) ++ (accepted ∷ []))
    (leaving one_game 255 (waiter 1 ∷ []) (noted 1 1 ∷ []))
    ∷ calls (sending (rated 0 ∷ rated 0x8000_0000_0000_0000 ∷ rated 0 ∷ [])) (gives tt ∷ refused 7 ∷ gives tt ∷ []) 1
    ∷ calls
    (sending (rated 0x7ff8_0000_0000_0000 ∷ rated 0x7ff8_0000_0000_0001 ∷ rated 0xfff8_0000_0000_0000 ∷ rated 0x7ff0_0000_0000_0001 ∷ rated 0x7ff8_0000_0000_0000 ∷ []))
    (gives tt ∷ refused 7 ∷ refused 7 ∷ refused 7 ∷ gives tt ∷ [])
    1
    ∷ calls
    (sending (joined_at 9_007_199_254_740_993 ∷ joined_at 9_007_199_254_740_993 ∷ joined_at 9_007_199_254_740_992 ∷ []))
    (refused 4 ∷ refused 4 ∷ refused 7 ∷ [])
    0
    ∷ calls (sending (waiter_for 200 1 ∷ waiter_for 200 1 ∷ waiter 1 ∷ [])) (refused 13 ∷ refused 13 ∷ refused 7 ∷ []) 0
    ∷ calls (sending (waiter 1 ∷ waiter_for 200 1 ∷ joined_at 9_007_199_254_740_993 ∷ [])) (gives tt ∷ refused 7 ∷ refused 7 ∷ []) 1
    ∷ stays
    (leaving one_game 255 (waiter 1 ∷ waiter 1 ∷ []) (noted_as 0 1 2 (guest_alone 1) ∷ []))
    (booking 1 1 ∷ keyed 1 (book (rated 0)) ∷ booking_for 200 1 1 ∷ booking 1 2 ∷ withdrawal 1 1 ∷ [])
    (gives tt ∷ gives tt ∷ gives tt ∷ refused 7 ∷ refused 7 ∷ [])
    ∷ stays
    (leaving one_game 255 [] (noted_as 9 1 2 (waiter_for 3 1) ∷ []))
    (booking 1 1 ∷ booking 1 2 ∷ withdrawal 1 1 ∷ [])
    (refused 9 ∷ refused 7 ∷ refused 7 ∷ [])
    ∷ []
