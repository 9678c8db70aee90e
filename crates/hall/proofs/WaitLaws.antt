-- Laws of who waits over plain lists.
use Prim.Native.Nat.{ℕ, ◌+◌, ◌-◌, ◌≤◌, ◌<◌, min}
use mathlib.Core.Path.{◌≡◌, refl, sym, ap, ◌∙◌}
use mathlib.Core.Bool.{Bool, true, false, cond, ◌||◌}
use mathlib.Core.List.{List, [], ◌∷◌, ◌++◌, map}
use native.Mathlib.Numerals.{add-one}
use native.Mathlib.Omega.{arith}
use lib.Dec.{ltb}
use lib.ListN.{length, take, drop, get_or, set, length-set, length-take}
use lib.Seq.{append_snoc, drop-cons, length-take-le, take-take}
use Rattle.base.specs.Lists.{any, keep, place}
use Rattle.base.proofs.Arrays.{push, first_many, take_held}
use Rattle.base.proofs.Checks.{neither}
use Rattle.base.proofs.Every.{any_in, any_from, kept_out}
use Rattle.base.proofs.Loops.{any_place, gap_closed, removed_none, keep_end_of}
use Rattle.queue.specs.Time.{time_over}
use Rattle.queue.specs.Queue.{QueueState, holding}
use Rattle.queue.specs.declared.QueueEntry.{QueueEntry}
use Rattle.queue.proofs.Laws.{stands}
use Rattle.hall.specs.declared.Booking.{Booking}
use Rattle.hall.specs.Games.{eligible}
use Rattle.hall.specs.Hall.{WaitState, waits_with, awaiting, booked_by, has_time_over, without_guest, entry_of, guest_alone}
use Rattle.hall.specs.Steps.{clock_among}

-- what is read past the end of an array of bookings
abbrev pub no_booking : Booking
no_booking = guest_alone 0

-- the first k of an array, if they are these, wait alone
pub stand : (bs : List Booking) (k : ℕ) (w : List Booking) → k ≤ length bs → take k bs ≡ w → waits_with k bs ≡ awaiting w
stand bs k w h e =
    let s : k ≡ length w = first_many bs k w h e in
    λ j. record { size = s j; bookings = e j }

-- a booking stored behind the first k is appended to them
pub joined : (bs : List Booking) (k : ℕ) (b : Booking) → k < length bs → waits_with (k + 1) (set bs k b) ≡ awaiting (take k bs ++ (b ∷ []))
joined bs k b h =
    let room : k + 1 ≤ length (set bs k b) = simp length-set (omega arith) in
    stand (set bs k b) (k + 1) (take k bs ++ (b ∷ [])) room (push bs k b h)

-- an array of 64 holds no more
pub at_most : (bs : List Booking) (n : ℕ) → length bs ≡ 64 → length (take n bs) ≤ 64
at_most bs n long = omega (arith, length-take n bs)

-- ---- those of a row whom a test keeps, written to the front of another

module _ (p : Booking → Bool) (row out : List Booking) (k i : ℕ) (d : Booking) (inv : take k out ++ keep p (drop i row) ≡ keep p row) (h : i < length row) where
  -- the booking at i is kept
  pub keep_on : k < length out → p (get_or row i d) ≡ true → take (k + 1) (set out k (get_or row i d)) ++ keep p (drop (i + 1) row) ≡ keep p row
  unfolding keep
  keep_on room e =
      let next : keep p (drop i row) ≡ get_or row i d ∷ keep p (drop (i + 1) row) = rw (drop-cons row i d h, e, add-one i) in
      rw (push out k (get_or row i d) room, append_snoc (take k out) (get_or row i d) (keep p (drop (i + 1) row)), ← next) inv

  -- it is not
  pub keep_skip : p (get_or row i d) ≡ false → take k out ++ keep p (drop (i + 1) row) ≡ keep p row
  unfolding keep
  keep_skip e =
      let next : keep p (drop i row) ≡ keep p (drop (i + 1) row) = rw (drop-cons row i d h, e, add-one i) in
      rw (← next) inv

-- ---- the first n of an array of 64, of which k are there

module _ (bs : List Booking) (n k : ℕ) (long : length bs ≡ 64) (clamped : k ≡ min n 64) where
  -- the clamped number holds what the stated one holds
  pub alike : take k bs ≡ take n bs
  alike = ap (λ (m : ℕ). take m bs) clamped ∙ take_held bs n 64 long

  -- the queue is filled as far as the bookings go
  pub queued : (out : List QueueEntry) (i : ℕ) → length out ≡ 64 → i ≡ k → take i out ≡ map entry_of (take i (take k bs)) → ◌≡◌ {A = QueueState} (record { size = k; entries = take k out }) (holding (map entry_of (take n bs)))
  queued out i room e inv =
      let l : k ≤ k = omega arith in
      stands out k (map entry_of (take n bs)) (omega arith) ((rw e at inv) ∙ ap (map entry_of) (take-take k k bs l ∙ alike))

  -- those who are kept are written as far as the bookings go
  pub kept : (p : Booking → Bool) (out : List Booking) (m i : ℕ) → length out ≡ 64 → m ≤ i → k ≤ i → i ≤ k → take m out ++ keep p (drop i (take k bs)) ≡ keep p (take k bs) → waits_with m out ≡ awaiting (keep p (take n bs))
  kept p out m i room h0 h l inv = stand out m (keep p (take n bs)) (omega arith) (keep_end_of p bs k out m i (omega arith) inv h l ∙ ap (keep p) alike)

  -- the place of the player's first booking
  module _ (at p : ℕ) (found : at ≡ place (booked_by p) (take k bs)) where
    many : length (take k bs) ≡ k
    many = length-take-le k bs (omega arith)

    -- does the player wait?
    pub waits_by : ltb at k ≡ any (booked_by p) (take n bs)
    waits_by = any_place (booked_by p) no_booking (take k bs) at k many found ∙ ap (any (booked_by p)) alike

    -- the player does not wait: all stay
    pub stay_all : k ≤ at → waits_with k bs ≡ awaiting (without_guest p (take n bs))
    stay_all h =
        let past : length (take k bs) ≤ place (booked_by p) (take k bs) = omega (arith, many) in
        stand bs k (without_guest p (take n bs)) (omega arith) (sym (removed_none (booked_by p) (take k bs) past) ∙ ap (without_guest p) alike)

    -- the player waits: the row is closed up
    pub stay_rest : (rest : List Booking) → length rest ≡ 64 → take (k - 1) rest ≡ take at (take k bs) ++ drop (at + 1) (take k bs) → waits_with (k - 1) rest ≡ awaiting (without_guest p (take n bs))
    stay_rest rest l e =
        stand rest (k - 1) (without_guest p (take n bs)) (omega arith) (e ∙ gap_closed (booked_by p) (take k bs) at found ∙ ap (without_guest p) alike)

-- the queue of a row of bookings is the queue of those who wait by it
pub queue_of_row : {q : QueueState} (k : ℕ) (bs : List Booking) {ws : List Booking} → q ≡ holding (map entry_of (take k bs)) → waits_with k bs ≡ awaiting ws → q ≡ holding (map entry_of ws)
queue_of_row k bs e f = e ∙ ap (λ (w : WaitState). holding (map entry_of w.bookings)) f

-- ---- the clock that a round is checked by

module _ (clock : ℕ) (ws : List Booking) where
  -- it is above 2^53 where the round's clock is, or a time of somebody who waits
  pub clock_over : time_over (clock_among clock ws) ≡ (time_over clock || any has_time_over ws)
  clock_over = go (any has_time_over ws) (time_over clock) refl
    where
      go : (late over : Bool) → over ≡ time_over clock → time_over (cond late 18446744073709551615 clock) ≡ (over || late)
      go true true e = refl
      go true false e = refl
      go false true e = sym e
      go false false e = sym e

  -- where it is not, it is the round's clock
  pub clock_kept : time_over (clock_among clock ws) ≡ false → clock_among clock ws ≡ clock
  clock_kept e = let late : any has_time_over ws ≡ false = (neither (time_over clock) (any has_time_over ws) (sym clock_over ∙ e)).1 in rw late

  -- and nobody of a game has such a time then
  pub own_over : (g : ℕ) → any has_time_over (eligible g ws) ≡ true → time_over (clock_among clock ws) ≡ true
  own_over g e =
      let y = any_from has_time_over (eligible g ws) e in
      let late : any has_time_over ws ≡ true = any_in has_time_over ws (kept_out _ y.0 ws y.1.0).0 y.1.1 in
      rw late
