-- A hall that is not over its limits never comes to be over them, whoever waits in it and whatever is noted.
use Prim.Native.Nat.{ℕ, ◌≤◌}
use mathlib.Core.Path.{◌≡◌, refl, ◌∙◌}
use mathlib.Core.Bool.{true, false, not, ◌||◌}
use mathlib.Core.List.{List, [], ◌∷◌, ◌++◌, map}
use Rattle.std.specs.Prelude.{Option, None, Some, unwrap_or}
use native.Mathlib.Omega.{arith}
use borrow.Author.Tests.{le-ltb}
use lib.Dec.{eqb, ltb}
use lib.ListN.{length, length-append}
use Rattle.base.specs.Refusals.{Outcome, refused, gives}
use Rattle.base.specs.Lists.{any, member}
use Rattle.base.proofs.Checks.{neither}
use Rattle.base.proofs.Loops.{seek_map}
use Rattle.base.proofs.Members.{length_remove, length_keep}
use Rattle.seating.specs.Seating.{sizes_over, seats}
use Rattle.hall.specs.declared.Booking.{Booking}
use Rattle.hall.specs.Games.{no_last_game, games_over, next_game}
use Rattle.hall.specs.Hall.{HallState, booked_by, without_guests, is_over, Deed, book, withdraw, deal, signed, fresh, judge}
use Rattle.hall.specs.Rounds.{Round, of_game, dispatch, RoundCall, Found, ready, served_by, round_found, departing}
use Rattle.hall.proofs.Circle.{next_low}
use Rattle.hall.proofs.Turns.{within}
use Rattle.demand.specs.Calls.{Call, keyed, round, no_kind, step, after}
use Rattle.demand.specs.Older.{Stated}
use Rattle.demand.proofs.Deals.{book_elim, withdraw_elim}
use Rattle.demand.proofs.Keys.{turn_elim, judge_fresh}
use Rattle.demand.proofs.Handled.{turning, handled, note_of, step_elim}

-- no more wait and no more is noted than may be, and what it states is within its limits too
pub record Bounded (h : HallState) : Type 0 where
  pub few : length h.waiting.bookings ≤ 64
  pub noted : length h.log.records ≤ 1024
  pub within : is_over h ≡ false

-- ---- the limits, one by one

module _ (h : HallState) (e : is_over h ≡ false) where
  -- the numbers stated
  stated_fit : (h.waiting.size ≤ 64) × (h.log.size ≤ 1024)
  stated_fit = within h.waiting.size h.log.size h.sizes h.served refl e

  -- the games
  games_fit : games_over h.sizes h.served ≡ false
  games_fit = (neither (ltb 64 h.waiting.size || ltb 1024 h.log.size) _ e).1

  -- their sizes
  sizes_fit_lem : any sizes_over h.sizes ≡ false
  sizes_fit_lem = (neither (any sizes_over h.sizes) _ games_fit).0

  -- the last one served
  pub last_fits : no_last_game h.served ≡ false
  last_fits = (neither (any sizes_over h.sizes) _ games_fit).1

  -- so where no more wait, and no more is noted, than is stated, there are not too many
  pub bounded : Stated h → Bounded h
  bounded s =
      record {
        few = omega (arith, s.waiting, stated_fit.0);
        noted = omega (arith, s.noted, stated_fit.1);
        within = e;
      }

-- ---- a keyed call

-- a guest waits by the bookings exactly where the guest's number is among theirs
pub waits : (p : ℕ) (ws : List Booking) → member p (map (λ b. b.player) ws) ≡ any (booked_by p) ws
waits p ws = seek_map (λ (b : Booking). b.player) (λ x. eqb x p) (λ x. true) false ws

-- a deal leaves no more than may wait
deal_few : (d : Deed) (ws : List Booking) → length ws ≤ 64 → length (deal d ws).waiting ≤ 64
deal_few (book b) ws f = book_elim (λ r. length r.waiting ≤ 64) b ws (λ n. f) (λ m l. rw length-append (omega arith))
deal_few (withdraw p) ws f =
    withdraw_elim (λ r. length r.waiting ≤ 64) p ws (λ n. f)
    (λ m. omega (arith, length_remove (λ (b : Booking). b.player) p ws (waits p ws ∙ m), f))

-- and its note has room
turned_bounded : (h : HallState) (k : ℕ) (d : Deed) → Bounded h → Bounded (handled h (keyed k d)).hall
turned_bounded h k d b = turn_elim (λ r. Bounded r.hall) h (signed k d) (deal d h.waiting.bookings) (λ a. b) new
  where
    new : judge h.log.records (signed k d) ≡ fresh → Bounded (turning h k d fresh).hall
    new e =
        let few : length (deal d h.waiting.bookings).waiting ≤ 64 = deal_few d h.waiting.bookings b.few in
        let noted : length (h.log.records ++ (note_of h k d ∷ [])) ≤ 1024 = rw length-append (omega (arith, (judge_fresh h.log.records (signed k d) e).room)) in
        record { few = few; noted = noted; within = rw (le-ltb 64 _ few, le-ltb 1024 _ noted, games_fit h b.within) }

-- ---- a round

-- the game that it serves is 0 to 7, and where it serves none the last one stays
served_fits : (h : HallState) (r : Round) → no_last_game h.served ≡ false → no_last_game (unwrap_or (served_by h r) h.served) ≡ false
served_fits h (of_game g m) l = l
served_fits h (dispatch r) l = go (next_game (ready h) h.served) refl
  where
    go : (x : Option ℕ) → next_game (ready h) h.served ≡ x → no_last_game (unwrap_or x h.served) ≡ false
    go None e = l
    go (Some g) e = rw (le-ltb 7 g (omega (arith, next_low (ready h) h.served g e)))

-- who is seated leaves
round_bounded : (h : HallState) (c : RoundCall) → Bounded h → Bounded (handled h (round c)).hall
round_bounded h c b = go (round_found h c)
  where
    go : (x : Outcome Found) → Bounded (departing h (served_by h c.round) x)
    go (refused n) = b
    go (gives f) =
        let few : length (without_guests (seats f.matches) h.waiting.bookings) ≤ 64 = omega (arith, length_keep (λ b. not (member b.player (seats f.matches))) h.waiting.bookings, b.few) in
        record {
          few = few;
          noted = b.noted;
          within = rw (le-ltb 64 _ few, le-ltb 1024 _ (stated_fit h b.within).1, sizes_fit_lem h b.within, served_fits h c.round (last_fits h b.within));
        }

-- ---- any call, any list of calls

-- a call
pub handled_bounded : (h : HallState) (c : Call) → Bounded h → Bounded (handled h c).hall
handled_bounded h (keyed k d) b = turned_bounded h k d b
handled_bounded h (round c) b = round_bounded h c b
handled_bounded h (no_kind g s) b = b

-- a list
pub bounded_after : (h : HallState) (cs : List Call) → Bounded h → Bounded (after h cs)
bounded_after h [] b = b
bounded_after h (c ∷ cs) b = bounded_after (step h c).hall cs (step_elim Bounded h c b (handled_bounded h c b))
