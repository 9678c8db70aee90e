-- Every call leaves the hall orderly: its lists are as long as it states, nobody waits twice, no key is noted twice, and the limits hold.
use Prim.Native.Nat.{ℕ}
use mathlib.Core.Path.{◌≡◌, refl, sym, ◌∙◌}
use mathlib.Core.Bool.{false}
use mathlib.Core.List.{List, [], ◌∷◌, map, map-append}
use native.Mathlib.Omega.{arith}
use Rattle.base.specs.Refusals.{Outcome, refused, gives}
use Rattle.base.specs.Lists.{any, Distinct, All}
use Rattle.base.proofs.Members.{distinct_snoc, distinct_remove, distinct_keep, stay_nobody}
use Rattle.base.proofs.All.{all_append}
use Rattle.base.proofs.Lookup.{unfound_absent}
use Rattle.seating.specs.declared.TeamComposition.{TeamComposition}
use Rattle.seating.specs.Seating.{sizes_over, seats, read_off}
use Rattle.seating.proofs.Drawn.{Drawn, drawn_none, drawn_told}
use Rattle.hall.specs.declared.Booking.{Booking}
use Rattle.hall.specs.Hall.{HallState, without_guests, empty, Deed, book, withdraw, deal, signed, fresh, judge}
use Rattle.hall.specs.Rounds.{RoundCall, Found, method_of, served_by, sizes_in, entries_in, round_found, quality_by, matches_from, departing, turn_from}
use Rattle.hall.proofs.Found.{round_drawn}
use Rattle.demand.specs.Calls.{Call, keyed, round, no_kind, rounded, step, after, matches_handed}
use Rattle.demand.specs.Demand.{Orderly}
use Rattle.demand.proofs.Deals.{book_elim, withdraw_elim, read_back}
use Rattle.demand.proofs.Keys.{turn_elim, Readable, New, judge_fresh}
use Rattle.demand.proofs.Handled.{turning, handled, step_elim}
use Rattle.demand.proofs.Bounded.{Bounded, last_fits, waits, handled_bounded}

-- orderly, within its limits, and each answer noted can be read
pub record Sane (h : HallState) : Type 0 where
  pub orderly : Orderly h
  pub bounded : Bounded h
  pub readable : All Readable h.log.records

-- ---- a keyed call

-- a deal leaves nobody waiting twice
deal_different : (d : Deed) (ws : List Booking) → Distinct (map (λ b. b.player) ws) → Distinct (map (λ b. b.player) (deal d ws).waiting)
deal_different (book b) ws f =
    book_elim (λ r. Distinct (map (λ b. b.player) r.waiting)) b ws (λ n. f)
    (λ m l. rw map-append (distinct_snoc (map (λ b. b.player) ws) b.player f (waits b.player ws ∙ m)))
deal_different (withdraw p) ws f =
    withdraw_elim (λ r. Distinct (map (λ b. b.player) r.waiting)) p ws (λ n. f) (λ m. distinct_remove (λ b. b.player) p ws f)

-- a keyed call leaves the hall so
turned_sane : (h : HallState) (k : ℕ) (d : Deed) → Sane h → Bounded (handled h (keyed k d)).hall → Sane (handled h (keyed k d)).hall
turned_sane h k d s = turn_elim (λ r. Bounded r.hall → Sane r.hall) h (signed k d) (deal d h.waiting.bookings) (λ a b. s) new
  where
    new : judge h.log.records (signed k d) ≡ fresh → Bounded (turning h k d fresh).hall → Sane (turning h k d fresh).hall
    new e b =
        let n : New h.log.records k = judge_fresh h.log.records (signed k d) e in
        record {
          orderly =
              record {
                waiting = refl;
                log = refl;
                players = deal_different d h.waiting.bookings s.orderly.players;
                keys = rw map-append (distinct_snoc (map (λ r. r.key) h.log.records) k s.orderly.keys (unfound_absent (λ r. r.key) k h.log.records n.unnoted));
                few = b.few;
                noted = b.noted;
                last = last_fits (turning h k d fresh).hall b.within;
              };
          bounded = b;
          readable =
              all_append Readable h.log.records _ s.readable
              (record { answer = (deal d h.waiting.bookings).answer; reads = read_back d h.waiting.bookings }, tt);
        }

-- ---- a round

-- what it finds are full matches of different guests whom it may seat
pub drawn : (h : HallState) (c : RoundCall) → Sane h → Drawn (sizes_in h c) (entries_in h c) (matches_from (round_found h c))
drawn h c s = go (round_found h c) refl
  where
    go : (x : Outcome Found) → round_found h c ≡ x → Drawn (sizes_in h c) (entries_in h c) (matches_from x)
    go (refused n) e = drawn_none (sizes_in h c) (entries_in h c)
    go (gives f) e = round_drawn h c f e s.orderly.players

-- the sheet tells them
pub told : (h : HallState) (c : RoundCall) → Sane h → matches_handed h.sizes (round c) (handled h (round c)).answer ≡ matches_from (round_found h c)
unfolding read_off
told h c s = go (round_found h c) (drawn h c s)
  where
    go : (x : Outcome Found) → Drawn (sizes_in h c) (entries_in h c) (matches_from x) →
        matches_handed h.sizes (round c) (rounded (turn_from h c x)).answer ≡ matches_from x
    go (refused n) r = refl
    go (gives f) r = drawn_told (sizes_in h c) (entries_in h c) (quality_by (method_of c.round)) c.sheets f.matches r

-- those whom they seat leave
pub left : (h : HallState) (c : RoundCall) → (handled h (round c)).hall.waiting.bookings ≡ without_guests (seats (matches_from (round_found h c))) h.waiting.bookings
unfolding seats
left h c = go (round_found h c)
  where
    go : (x : Outcome Found) → (departing h (served_by h c.round) x).waiting.bookings ≡ without_guests (seats (matches_from x)) h.waiting.bookings
    go (refused n) = sym (stay_nobody (λ b. b.player) h.waiting.bookings)
    go (gives f) = refl

-- a round leaves the hall so
round_sane : (h : HallState) (c : RoundCall) → Sane h → Bounded (handled h (round c)).hall → Sane (handled h (round c)).hall
round_sane h c s = go (round_found h c)
  where
    go : (x : Outcome Found) → Bounded (departing h (served_by h c.round) x) → Sane (departing h (served_by h c.round) x)
    go (refused n) b = s
    go (gives f) b =
        record {
          orderly =
              record {
                waiting = refl;
                log = s.orderly.log;
                players = distinct_keep (λ b. b.player) _ h.waiting.bookings s.orderly.players;
                keys = s.orderly.keys;
                few = b.few;
                noted = b.noted;
                last = last_fits (departing h (served_by h c.round) (gives f)) b.within;
              };
          bounded = b;
          readable = s.readable;
        }

-- ---- any call, any list of calls

-- a call
handled_sane : (h : HallState) (c : Call) → Sane h → Sane (handled h c).hall
handled_sane h (keyed k d) s = turned_sane h k d s (handled_bounded h (keyed k d) s.bounded)
handled_sane h (round c) s = round_sane h c s (handled_bounded h (round c) s.bounded)
handled_sane h (no_kind g x) s = s

-- a step
pub sane_step : (h : HallState) (c : Call) → Sane h → Sane (step h c).hall
sane_step h c s = step_elim Sane h c s (handled_sane h c s)

-- a list
pub sane_after : (h : HallState) (cs : List Call) → Sane h → Sane (after h cs)
sane_after h [] s = s
sane_after h (c ∷ cs) s = sane_after (step h c).hall cs (sane_step h c s)

-- the empty hall is orderly
pub orderly_empty : (sizes : List TeamComposition) → Orderly (empty sizes)
orderly_empty sizes = record { waiting = refl; log = refl; players = tt; keys = tt; few = omega arith; noted = omega arith; last = refl }

-- and sane, where no size is over 8
pub sane_empty : (sizes : List TeamComposition) → any sizes_over sizes ≡ false → Sane (empty sizes)
sane_empty sizes small =
    record { orderly = orderly_empty sizes; bounded = record { few = omega arith; noted = omega arith; within = rw small }; readable = tt }
