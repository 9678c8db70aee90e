-- Document 02, 2.5: "An evening under way keeps running." Notes of which only kind and guest were noted come only with a hall that is handed in, so
-- demand 3, which begins with an empty one, says nothing of them; this is promised of them, behind any calls.
use Rattle.std.specs.Prelude.{ℕ, ◌≤◌, ◌≡◌, true, false, List, length}
use Rattle.std.specs.Prelude.{Some}
use Rattle.base.specs.Refusals.{Outcome, refused}
use Rattle.base.specs.Lists.{keep}
use Rattle.hall.specs.declared.Booking.{Booking}
use Rattle.hall.specs.Hall.{HallState, KeyRecord, is_older, is_over, book, withdraw, answer_in, look_up}
use Rattle.demand.specs.Calls.{Call, keyed, answered, step, after}

-- the notes of bookings of which only the guest was noted
abbrev pub older_notes : List KeyRecord → List KeyRecord
older_notes = keep (λ r. is_older r.content.kind)

-- no more wait, and no more is noted, than the hall states: so it is with every hall in memory
pub record Stated (h : HallState) : Type 0 where
  pub waiting : length h.waiting.bookings ≤ h.waiting.size
  pub noted : length h.log.records ≤ h.log.size

-- the key has such a note, of this guest, with this answer
pub record NotedBefore (h : HallState) (k guest : ℕ) (a : Outcome (Unit {0})) : Type 0 where
  pub note : KeyRecord
  pub found : look_up k h.log.records ≡ Some note
  pub older : is_older note.content.kind ≡ true
  pub player : note.content.held.player ≡ guest
  pub answer : answer_in note.content.kind note.answer ≡ Some a

-- its key answers "as before", and the hall stays
pub record AsBefore (h : HallState) (k guest : ℕ) (a : Outcome (Unit {0})) : Type 0 where
  -- every booking of its guest gets the noted answer, whatever else it brings
  pub own : (b : Booking) → b.player ≡ guest → step h (keyed k (book b)) ≡ record { hall = h; answer = answered a }
  -- a booking of another guest gets 7
  pub others : (b : Booking) → (b.player ≡ guest → ⊥) → step h (keyed k (book b)) ≡ record { hall = h; answer = answered (refused 7) }
  -- and so does every withdrawal
  pub withdrawals : (p : ℕ) → step h (keyed k (withdraw p)) ≡ record { hall = h; answer = answered (refused 7) }

pub record Older (h : HallState) (calls : List Call) : Type 0 where
  -- no call makes such a note, and those that came in with the hall stay
  pub stay : older_notes (after h calls).log.records ≡ older_notes h.log.records
  -- in a hall that is not over its limits they answer for good
  pub answers : Stated h → is_over h ≡ false → (k guest : ℕ) (a : Outcome (Unit {0})) → NotedBefore h k guest a → AsBefore (after h calls) k guest a
