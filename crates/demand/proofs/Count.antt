-- Accepted = waiting + withdrawn + seated.
use Prim.Native.Nat.{ℕ, ◌+◌}
use mathlib.Core.Path.{◌≡◌, refl, ◌∙◌, subst}
use mathlib.Core.Bool.{true, false, ◌&&◌}
use mathlib.Core.List.{List, [], ◌∷◌, map}
use native.Mathlib.Omega.{arith}
use lib.ListN.{length, length-append}
use Rattle.base.specs.Lists.{Within}
use Rattle.base.proofs.Members.{length_remove, length_stay}
use Rattle.matchmaker.specs.Quality.{MatchState}
use Rattle.seating.specs.declared.TeamComposition.{TeamComposition}
use Rattle.seating.specs.Seating.{seats}
use Rattle.seating.proofs.Drawn.{Drawn}
use Rattle.hall.specs.Hall.{HallState, book, withdraw, deal, signed, Judgement, known, clash, full, fresh, judge, Turn, turn}
use Rattle.hall.specs.Rounds.{game_of, sizes_in, eligible_in, entries_in, round_found, matches_from}
use Rattle.demand.specs.Calls.{Call, keyed, round, no_kind, answered, Step, step, after, answers, mark, is_original, is_booking, is_withdrawal, matches_handed, taken, one_if, accepted_in, withdrawn_in, seated_in}
use Rattle.hall.specs.declared.Booking.{Booking}
use Rattle.demand.proofs.Deals.{book_elim, withdraw_elim}
use Rattle.demand.proofs.Keys.{signatures, to_mark, mark_judge}
use Rattle.hall.proofs.Found.{players, eligible_waits}
use Rattle.demand.proofs.Handled.{handled, step_handled, sizes_step}
use Rattle.demand.proofs.Bounded.{waits}
use Rattle.demand.proofs.Orderly.{Sane, sane_step, drawn, told, left}
use Rattle.demand.proofs.Thin.{grow_step}

-- ---- one call

-- who waits then, with those who withdrew and those seated by the call, are who waited before, with the one accepted
Balanced : List TeamComposition → HallState → Call → Step → Type 0
Balanced sizes h c t =
    length t.hall.waiting.bookings
    + (one_if (is_original (mark (signatures h.log.records) c) && (is_withdrawal c && taken t.answer)) + length (seats (matches_handed sizes c t.answer)))
    ≡ length h.waiting.bookings + one_if (is_original (mark (signatures h.log.records) c) && (is_booking c && taken t.answer))

-- a booking that is not refused adds one
balance_book : (ws : List Booking) (b : Booking) → length (deal (book b) ws).waiting + (0 + 0) ≡ length ws + one_if (taken (answered (deal (book b) ws).answer))
balance_book ws b =
    book_elim (λ r. length r.waiting + (0 + 0) ≡ length ws + one_if (taken (answered r.answer))) b ws (λ n. refl)
    (λ m l. rw length-append (omega arith))

-- a withdrawal that is not refused takes one
balance_withdraw : (ws : List Booking) (p : ℕ) → length (deal (withdraw p) ws).waiting + (one_if (taken (answered (deal (withdraw p) ws).answer)) + 0) ≡ length ws + 0
balance_withdraw ws p =
    withdraw_elim (λ r. length r.waiting + (one_if (taken (answered r.answer)) + 0) ≡ length ws + 0) p ws (λ n. refl)
    (λ m. omega (arith, length_remove (λ (b : Booking). b.player) p ws (waits p ws ∙ m)))

-- every call is balanced
balance_handled : (h : HallState) (c : Call) → Sane h → Balanced h.sizes h c (handled h c)
unfolding Balanced seats
balance_handled h (keyed k (book b)) s = rw (mark_judge h.log.records (signed k (book b)) s.readable) (go (judge h.log.records (signed k (book b))))
  where
    go : (v : Judgement) → (let t : Turn = turn h (signed k (book b)) (deal (book b) h.waiting.bookings) v in
        length t.hall.waiting.bookings + (one_if (is_original (to_mark v) && (false && taken (answered t.answer))) + 0)
        ≡ length h.waiting.bookings + one_if (is_original (to_mark v) && (true && taken (answered t.answer))))
    go (known a) = refl
    go clash = refl
    go full = refl
    go fresh = balance_book h.waiting.bookings b
balance_handled h (keyed k (withdraw p)) s = rw (mark_judge h.log.records (signed k (withdraw p)) s.readable) (go (judge h.log.records (signed k (withdraw p))))
  where
    go : (v : Judgement) → (let t : Turn = turn h (signed k (withdraw p)) (deal (withdraw p) h.waiting.bookings) v in
        length t.hall.waiting.bookings + (one_if (is_original (to_mark v) && (true && taken (answered t.answer))) + 0)
        ≡ length h.waiting.bookings + one_if (is_original (to_mark v) && (false && taken (answered t.answer))))
    go (known a) = refl
    go clash = refl
    go full = refl
    go fresh = balance_withdraw h.waiting.bookings p
balance_handled h (no_kind g x) s = refl
balance_handled h (round c) s =
    let ms : List MatchState = matches_from (round_found h c) in
    let r : Drawn (sizes_in h c) (entries_in h c) ms = drawn h c s in
    let w : Within (seats ms) (map (λ b. b.player) (eligible_in h c)) = rw (players (eligible_in h c)) at r.seating.waiting in
    rw (told h c s, left h c)
    (omega (arith, length_stay (λ (b : Booking). b.player) (seats ms) h.waiting.bookings r.seating.different (eligible_waits h.waiting.bookings (game_of h c) (seats ms) w) s.orderly.players))

-- and so is every step, by the sizes that the hall has
balance_step : (sizes : List TeamComposition) (h : HallState) (c : Call) → Sane h → h.sizes ≡ sizes → Balanced sizes h c (step h c)
balance_step sizes h c s q = subst (λ (z : List TeamComposition). Balanced z h c (step h c)) q (rw (step_handled h c s.bounded.within) (balance_handled h c s))

-- ---- any list of calls

-- and so are they all together
pub conserve : (sizes : List TeamComposition) (h : HallState) (cs : List Call) → Sane h → h.sizes ≡ sizes →
    length (after h cs).waiting.bookings + (withdrawn_in (signatures h.log.records) cs (answers h cs) + seated_in sizes cs (answers h cs))
    ≡ length h.waiting.bookings + accepted_in (signatures h.log.records) cs (answers h cs)
unfolding Balanced
conserve sizes h [] s q = refl
conserve sizes h (c ∷ cs) s q =
    rw (grow_step h c s)
    (omega (arith, conserve sizes (step h c).hall cs (sane_step h c s) (sizes_step h c ∙ q), balance_step sizes h c s q))
