-- Document 01, "Hall (added)", with the games of document 02, 2.4, and the keys of 2.5: who waits, the key book, and what a booking or a
-- withdrawal does.
use Rattle.std.specs.Prelude.{ℕ, Bool, not, cond, ◌&&◌, ◌||◌, List, [], ◌∷◌, ◌++◌, eqb, ltb, length, take}
use Rattle.std.specs.Prelude.{Option, None, Some}
use Rattle.std.specs.Float.{binary64}
use Rattle.std.specs.Float.Ieee.{of_bits}
use Rattle.base.specs.Refusals.{Outcome, refused, gives}
use Rattle.base.specs.Numbers.{refusal_of}
use Rattle.base.specs.Lists.{seek, any, keep, remove_first, member}
use Rattle.queue.specs.Time.{time_over}
use Rattle.queue.specs.declared.QueueEntry.{QueueEntry}
use Rattle.seating.specs.declared.TeamComposition.{TeamComposition}
use Rattle.hall.specs.declared.Booking.{Booking}
use Rattle.hall.specs.declared.Note.{Note}
use Rattle.hall.specs.declared.Hall.{Hall}
use Rattle.hall.specs.Games.{is_no_game, no_game, games_over}

-- ---- who waits

-- the stated number of those who wait, and their bookings, in the order of coming. A stated number over 64 holds all 64 places.
pub record WaitState : Type 0 where
  pub size : ℕ
  pub bookings : List Booking

-- the first k bookings of an array
abbrev pub waits_with : ℕ → List Booking → WaitState
waits_with k bs = record { size = k; bookings = take k bs }

-- just these bookings
abbrev pub awaiting : List Booking → WaitState
awaiting bs = record { size = length bs; bookings = bs }

-- is this the guest's booking?
abbrev pub booked_by : ℕ → Booking → Bool
booked_by p b = eqb b.player p

-- a booking whose time is above 2^53
abbrev pub has_time_over : Booking → Bool
has_time_over b = time_over b.joined

-- the bookings without the guest's first one
abbrev pub without_guest : ℕ → List Booking → List Booking
without_guest p = remove_first (booked_by p)

-- the bookings of everyone but these guests
abbrev pub without_guests : List ℕ → List Booking → List Booking
without_guests ps = keep (λ b. not (member b.player ps))

-- the queue's entry of a booking: what a search reads of it. A booking brings its rating as bits; whatever NaN they are of, it is one NaN here.
abbrev pub entry_of : Booking → QueueEntry
entry_of b = record { player = b.player; joined = b.joined; rating = of_bits binary64 b.rating_bits; party = b.party; role = b.role }

-- ---- what a key stands for

-- kind 0 is a booking, 1 a withdrawal, 2 a booking noted when only its guest was. Of what the last two hold, just the guest counts.
pub record Content : Type 0 where
  pub kind : ℕ
  pub held : Booking

-- a guest and nothing else
abbrev pub guest_alone : ℕ → Booking
guest_alone p = record { player = p; joined = 0; rating_bits = 0; party = 0; role = 0; game = 0 }

-- "the same only if guest, game, joined time, rating bits, party and role agree"
abbrev pub same_booking : Booking → Booking → Bool
same_booking a b =
    booked_by b.player a && (eqb a.game b.game && (eqb a.joined b.joined
    && (eqb a.rating_bits b.rating_bits && (eqb a.party b.party && eqb a.role b.role))))

-- is this the kind of a booking noted when only its guest was?
abbrev pub is_older : ℕ → Bool
is_older kind = eqb kind 2

-- the kind of the call that left a note of this kind
abbrev pub call_kind : ℕ → ℕ
call_kind kind = cond (is_older kind) 0 kind

-- does a key that stands for the first know a call of the second? Whole bookings are compared; withdrawals, and "older notes, which hold only
-- kind and guest", by kind and guest.
unfoldable pub same : Content → Content → Bool
same a b =
    eqb (call_kind a.kind) b.kind
    && cond (eqb a.kind 0) (same_booking a.held b.held) (booked_by b.held.player a.held)

-- ---- the key book: "key, kind, guest, answer", and of a booking all of it

-- one keyed call that was answered; the answer as a number, 0 accepted, n refusal n
pub record KeyRecord : Type 0 where
  pub key : ℕ
  pub content : Content
  pub answer : ℕ

-- the stated number of the records, and the records, in the order of coming
pub record LogState : Type 0 where
  pub size : ℕ
  pub records : List KeyRecord

-- the booking in a note
abbrev pub booking_in : Note → Booking
booking_in m =
    record { player = m.player; joined = m.joined; rating_bits = m.rating_bits; party = m.party; role = m.role; game = m.game }

-- what a note says that its key stands for
abbrev pub content_in : Note → Content
content_in m = record { kind = m.kind; held = booking_in m }

-- a key and the note at its place
abbrev pub record_of : ℕ → Note → KeyRecord
record_of k m = record { key = k; content = content_in m; answer = m.answer }

-- the column of keys beside the notes
unfoldable pub paired : List ℕ → List Note → List KeyRecord
paired [] ms = []
paired (k ∷ ks) [] = []
paired (k ∷ ks) (m ∷ ms) = record_of k m ∷ paired ks ms

-- the first n keys of a column, each with its note
abbrev pub log_with : ℕ → List ℕ → List Note → LogState
log_with n ks ms = record { size = n; records = paired (take n ks) (take n ms) }

-- just these records
abbrev pub logging : List KeyRecord → LogState
logging rs = record { size = length rs; records = rs }

-- ---- the hall

-- "waiting queue and key book", the sizes of the games, and the last game served
pub record HallState : Type 0 where
  pub waiting : WaitState
  pub log : LogState
  pub sizes : List TeamComposition
  pub served : ℕ

abbrev pub hall_of : Hall → HallState
hall_of h =
    record {
      waiting = waits_with h.waiting h.bookings;
      log = log_with h.noted h.keys h.notes;
      sizes = h.sizes;
      served = h.served;
    }

-- the hall with just these bookings and records
abbrev pub hall_with : HallState → List Booking → List KeyRecord → HallState
hall_with h ws rs = record { waiting = awaiting ws; log = logging rs; sizes = h.sizes; served = h.served }

-- "nobody waiting and no key noted", and "sizes given with the empty hall"
abbrev pub empty : List TeamComposition → HallState
empty sizes = record { waiting = awaiting []; log = logging []; sizes = sizes; served = no_game }

-- refusal 1: "a hall over 64 waiting or 1,024 notes", and what its games may not be
abbrev pub over_limits : ℕ → ℕ → List TeamComposition → ℕ → Bool
over_limits waiting noted sizes served = (ltb 64 waiting || ltb 1024 noted) || games_over sizes served

abbrev pub is_over : HallState → Bool
is_over h = over_limits h.waiting.size h.log.size h.sizes h.served

-- ---- a booking or a withdrawal whose key is new

pub data Deed : Type 0 where
  book : Booking → Deed
  withdraw : ℕ → Deed

pub record Deal : Type 0 where
  pub waiting : List Booking
  pub answer : Outcome (Unit {0})

-- a booking: 13, 4, 9, 10, or accepted. Does its guest wait, for whatever game, and is there room?
unfoldable pub booking_answer : Booking → Bool → Bool → Outcome (Unit {0})
booking_answer b waits room =
    cond (is_no_game b.game) (refused 13)
    (cond (has_time_over b) (refused 4) (cond waits (refused 9) (cond room (gives tt) (refused 10))))

-- a withdrawal: accepted, or 11. Does its guest wait?
abbrev pub withdrawal_answer : Bool → Outcome (Unit {0})
withdrawal_answer waits = cond waits (gives tt) (refused 11)

-- an accepted call changes who waits, a refused one does not
abbrev pub settled : List Booking → List Booking → Outcome (Unit {0}) → Deal
settled ws new (refused n) = record { waiting = ws; answer = refused n }
settled ws new (gives u) = record { waiting = new; answer = gives u }

-- "A booking appends; a withdrawal removes."
unfoldable pub deal : Deed → List Booking → Deal
deal (book b) ws = settled ws (ws ++ (b ∷ [])) (booking_answer b (any (booked_by b.player) ws) (ltb (length ws) 64))
deal (withdraw p) ws = settled ws (without_guest p ws) (withdrawal_answer (any (booked_by p) ws))

-- ---- what the key book says

-- a call's key, and what the call would have it stand for
pub record Signature : Type 0 where
  pub key : ℕ
  pub content : Content

abbrev pub content_of : Deed → Content
content_of (book b) = record { kind = 0; held = b }
content_of (withdraw p) = record { kind = 1; held = guest_alone p }

abbrev pub signed : ℕ → Deed → Signature
signed k d = record { key = k; content = content_of d }

-- the answer that a number stands for in a record of this kind, if it is one that such a call can get noted
unfoldable pub answer_in : ℕ → ℕ → Option (Outcome (Unit {0}))
answer_in kind n =
    cond (eqb n 0) (Some (gives tt))
    (cond (eqb (call_kind kind) 0)
    (cond (eqb n 4 || (eqb n 9 || (eqb n 10 || eqb n 13))) (Some (refused n)) None)
    (cond (eqb kind 1 && eqb n 11) (Some (refused n)) None))

-- the record of a call that got this answer
abbrev pub recorded : Signature → Outcome (Unit {0}) → KeyRecord
recorded s a = record { key = s.key; content = s.content; answer = refusal_of a }

-- the record of a key, if there is one
abbrev pub look_up : ℕ → List KeyRecord → Option KeyRecord
look_up k = seek (λ r. eqb r.key k) Some None

-- what the key book says to a call: the noted answer, to the same call; refusal 7 to "anything else under that key"; 8; or its key is new
pub data Judgement : Type 0 where
  known : Outcome (Unit {0}) → Judgement
  clash : Judgement
  full : Judgement
  fresh : Judgement

abbrev pub known_or : Option (Outcome (Unit {0})) → Judgement
known_or None = clash
known_or (Some a) = known a

abbrev pub judge_by : ℕ → Signature → Option KeyRecord → Judgement
judge_by n s None = cond (ltb n 1024) fresh full
judge_by n s (Some r) = cond (same r.content s.content) (known_or (answer_in r.content.kind r.answer)) clash

unfoldable pub judge : List KeyRecord → Signature → Judgement
judge rs s = judge_by (length rs) s (look_up s.key rs)

-- ---- a keyed call

pub record Turn : Type 0 where
  pub hall : HallState
  pub answer : Outcome (Unit {0})

-- "Refusals 1, 7 and 8 change nothing. Refusals 4, 9, 10 and 11 are noted with the key", and so is 13
abbrev pub turn : HallState → Signature → Deal → Judgement → Turn
turn h s d (known a) = record { hall = h; answer = a }
turn h s d clash = record { hall = h; answer = refused 7 }
turn h s d full = record { hall = h; answer = refused 8 }
turn h s d fresh = record { hall = hall_with h d.waiting (h.log.records ++ (recorded s d.answer ∷ [])); answer = d.answer }

-- "A booking checks 1, 7, 8, 4, 9, 10", with 13 "after 8"; "a withdrawal 1, 7, 8, 11; a resend stops after 8 with its noted answer."
abbrev pub keyed_rule : HallState → ℕ → Deed → Turn
keyed_rule h k d =
    cond (is_over h) (record { hall = h; answer = refused 1 })
    (turn h (signed k d) (deal d h.waiting.bookings) (judge h.log.records (signed k d)))
