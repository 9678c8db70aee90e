-- Laws of a keyed call over plain lists: one for each way in which it ends, for bookings and withdrawals alike.
use Prim.Native.Nat.{ℕ, ◌+◌, ◌≤◌, ◌<◌}
use mathlib.Core.Path.{◌≡◌, refl, sym, ◌∙◌}
use mathlib.Core.Bool.{Bool, true, false, cond, ◌||◌}
use mathlib.Core.List.{List, [], ◌∷◌, ◌++◌}
use Rattle.std.specs.Prelude.{Option, None, Some}
use borrow.Author.Tests.{lt-ltb, le-ltb, ltb-true, ltb-false}
use lib.Dec.{eqb, ltb}
use lib.ListN.{length, take, get_or, set}
use Rattle.base.specs.Lists.{any, place}
use Rattle.base.specs.Refusals.{Outcome, refused, gives}
use Rattle.base.specs.Numbers.{outcome_in}
use Rattle.base.proofs.Cases.{cases, never}
use Rattle.base.proofs.Checks.{neither}
use Rattle.base.proofs.Loops.{removed_absent}
use Rattle.base.proofs.Numbers.{number_accepts, number_refuses, number_back}
use Rattle.seating.specs.declared.TeamComposition.{TeamComposition}
use Rattle.hall.specs.declared.Booking.{Booking}
use Rattle.hall.specs.declared.Note.{Note}
use Rattle.hall.specs.Games.{is_no_game, games_over}
use Rattle.hall.specs.Hall.{WaitState, waits_with, awaiting, booked_by, has_time_over, without_guest, same, record_of, log_with, HallState, over_limits, Deed, book, withdraw, Deal, booking_answer, withdrawal_answer, deal, Signature, content_of, signed, answer_in, recorded, look_up, clash, known_or, judge, Turn, turn, keyed_rule}
use Rattle.hall.specs.Steps.{heard_or, heard_from, note_with}
use Rattle.hall.proofs.KeyLaws.{no_note, records_held, noted_there, noted_nowhere, logged}

-- ---- what a new key's call does

-- an accepted booking appends
pub booked : (b : Booking) (ws : List Booking) (w t : Bool) (r : ℕ) → w ≡ any (booked_by b.player) ws → t ≡ ltb (length ws) 64 → outcome_in r tt ≡ booking_answer b w t → r ≡ 0 → ◌≡◌ {A = Deal} (record { waiting = ws ++ (b ∷ []); answer = gives tt }) (deal (book b) ws)
unfolding deal
booked b ws w t r e f a z = rw (← e, ← f, ← a, number_accepts r (tt {0}) z)

-- a refused one does not
pub not_booked : (b : Booking) (ws : List Booking) (w t : Bool) (r : ℕ) → w ≡ any (booked_by b.player) ws → t ≡ ltb (length ws) 64 → outcome_in r tt ≡ booking_answer b w t → eqb r 0 ≡ false → ◌≡◌ {A = Deal} (record { waiting = ws; answer = refused r }) (deal (book b) ws)
unfolding deal
not_booked b ws w t r e f a z = rw (← e, ← f, ← a, number_refuses r (tt {0}) z)

-- only where there is room is a booking accepted
no_room : (g a b : Bool) → ◌≡◌ {A = Outcome (Unit {0})} (gives tt) (cond g (refused 13) (cond a (refused 4) (cond b (refused 9) (refused 10)))) → ◌≡◌ {A = ℕ} 0 1
no_room true a b e = never cc
no_room false true b e = never cc
no_room false false true e = never cc
no_room false false false e = never cc

pub accepted_room : (b : Booking) (w : Bool) (k r : ℕ) → outcome_in r tt ≡ booking_answer b w (ltb k 64) → r ≡ 0 → k < 64
unfolding booking_answer
accepted_room b w k r e z =
    cases (ltb k 64) (λ t. ltb-true k 64 t)
    (λ f. never (no_room (is_no_game b.game) (has_time_over b) w (sym (number_accepts r (tt {0}) z) ∙ (rw f at e))))

-- a withdrawal takes the guest's booking away, if there is one
pub withdrawn : (p : ℕ) (ws : List Booking) (w : Bool) (r : ℕ) → w ≡ any (booked_by p) ws → outcome_in r tt ≡ withdrawal_answer w → ◌≡◌ {A = Deal} (record { waiting = without_guest p ws; answer = outcome_in r tt }) (deal (withdraw p) ws)
unfolding deal
withdrawn p ws true r e a = rw (← e, a)
withdrawn p ws false r e a = rw (← e, a, removed_absent (booked_by p) ws (sym e))

-- ---- the note of a call

-- what is stored beside the key is the record of the call and its answer
pub noted_as_lem : (key : ℕ) (d : Deed) (m : Note) (r : ℕ) → m ≡ note_with (content_of d) r → {a : Outcome (Unit {0})} → outcome_in r tt ≡ a → record_of key m ≡ recorded (signed key d) a
noted_as_lem key d m r e told = rw (e, ← told, number_back r)

-- ---- a keyed call

-- a hall that is not over its limits
pub within : (k n : ℕ) (sizes : List TeamComposition) (last : ℕ) {o : Bool} → o ≡ over_limits k n sizes last → o ≡ false → (k ≤ 64) × (n ≤ 1024)
within k n sizes last told left =
    let e = neither (ltb 64 k) (ltb 1024 n) (neither (ltb 64 k || ltb 1024 n) (games_over sizes last) (sym told ∙ left)).0 in
    (ltb-false 64 k e.0, ltb-false 1024 n e.1)

-- what the record of its key says stops a call
stops : (h : HallState) (s : Signature) (x : Deal) (t : Bool) (o : Option (Outcome (Unit {0}))) → turn h s x (cond t (known_or o) clash) ≡ record { hall = h; answer = cond t (heard_or o) (refused 7) }
stops h s x false o = refl
stops h s x true None = refl
stops h s x true (Some a) = refl

module _ (bs : List Booking) (k : ℕ) (ks : List ℕ) (ms : List Note) (n : ℕ) (sizes : List TeamComposition) (last key : ℕ) (d : Deed) where
  abbrev state : HallState
  state = record { waiting = waits_with k bs; log = log_with n ks ms; sizes = sizes; served = last }

  -- over its limits: 1
  pub turned_over : {o : Bool} → o ≡ over_limits k n sizes last → o ≡ true → ◌≡◌ {A = Turn} (record { hall = state; answer = refused 1 }) (keyed_rule state key d)
  turned_over told taken = rw (sym told ∙ taken)

  module _ {o : Bool} (told : o ≡ over_limits k n sizes last) (left : o ≡ false) (long : length ks ≡ 1024) (wide : length ms ≡ 1024) (fits : n ≤ 1024) (at : ℕ) (found : at ≡ place (λ x. eqb x key) (take n ks)) where
    under : over_limits k n sizes last ≡ false
    under = sym told ∙ left

    -- the key is known: the note at its place answers
    pub turned_seen : at < n → (r : ℕ) → outcome_in r tt ≡ heard_from (get_or ms at no_note) (content_of d) → ◌≡◌ {A = Turn} (record { hall = state; answer = outcome_in r tt }) (keyed_rule state key d)
    unfolding judge
    turned_seen h r e =
        let there = noted_there ks ms n key at long wide fits found h in
        let m : Note = get_or ms at no_note in
        rw (under, there.1.0, there.1.1.0, there.1.1.1, e)
        (sym (stops state (signed key d) (deal d (take k bs)) (same (record_of 0 m).content (content_of d)) (answer_in m.kind m.answer)))

    module _ (new : n ≤ at) where
      nowhere : look_up key (log_with n ks ms).records ≡ None
      nowhere = noted_nowhere ks ms n key at long wide fits found new

      records : length (log_with n ks ms).records ≡ n
      records = records_held ks ms n key at long wide fits found

      -- a new key, and no room
      pub turned_full : 1024 ≤ n → ◌≡◌ {A = Turn} (record { hall = state; answer = refused 8 }) (keyed_rule state key d)
      unfolding judge
      turned_full h = rw (under, nowhere, records, le-ltb n 1024 h)

      -- a new key's call is noted, and does what it does
      pub turned_fresh : n < 1024 → (x : Deal) → x ≡ deal d (take k bs) → (w : WaitState) → w ≡ awaiting x.waiting → (m : Note) → record_of key m ≡ recorded (signed key d) x.answer → (r : ℕ) → outcome_in r tt ≡ x.answer → ◌≡◌ {A = Turn} (record { hall = record { waiting = w; log = log_with (n + 1) (set ks n key) (set ms n m); sizes = sizes; served = last }; answer = outcome_in r tt }) (keyed_rule state key d)
      unfolding judge
      turned_fresh h x dealt w held m noted r answered =
          rw (under, nowhere, records, lt-ltb n 1024 h, ← dealt, held, logged ks ms n key at long wide fits found h m, noted, answered)
