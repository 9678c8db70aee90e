-- The refusals of a booking and of a withdrawal, gone through once. Here and only here proofs of demand 3 look into `deal` and `answer_in`.
use Prim.Native.Nat.{ℕ, ◌<◌}
use mathlib.Core.Path.{◌≡◌, refl}
use mathlib.Core.Bool.{Bool, true, false, cond}
use mathlib.Core.List.{List, [], ◌∷◌, ◌++◌}
use Rattle.std.specs.Prelude.{Some}
use lib.Dec.{ltb}
use lib.ListN.{length}
use borrow.Author.Tests.{ltb-true}
use Rattle.base.specs.Refusals.{Outcome, refused, gives}
use Rattle.base.specs.Numbers.{refusal_of}
use Rattle.base.specs.Lists.{any}
use Rattle.base.proofs.Cases.{cases, never}
use Rattle.hall.specs.declared.Booking.{Booking}
use Rattle.hall.specs.Games.{is_no_game}
use Rattle.hall.specs.Hall.{booked_by, has_time_over, without_guest, Deed, book, withdraw, Deal, booking_answer, withdrawal_answer, settled, deal, content_of, answer_in}

-- ---- the ordered refusals

-- a refusal leaves those who wait
abbrev stay : List Booking → ℕ → Deal
stay ws n = record { waiting = ws; answer = refused n }

-- an accepted call leaves these
abbrev accepted : List Booking → Deal
accepted new = record { waiting = new; answer = gives tt }

-- a booking is accepted only where its guest does not wait and there is room
booked : (b : Booking) (waits room : Bool) (u : Unit {0}) → booking_answer b waits room ≡ gives u → (waits ≡ false) × (room ≡ true)
unfolding booking_answer
booked b waits room u e =
    cases (is_no_game b.game) (λ g. never (let z : refused 13 ≡ gives u = rw g at e in cc))
    (λ g. cases (has_time_over b) (λ t. never (let z : refused 4 ≡ gives u = rw (g, t) at e in cc)) (λ t. in_time waits room (rw (g, t) at e)))
  where
    in_time : (waits room : Bool) → cond waits (refused 9) (cond room (gives tt) (refused 10)) ≡ gives u → (waits ≡ false) × (room ≡ true)
    in_time true room e = never cc
    in_time false true e = (refl, refl)
    in_time false false e = never cc

-- what holds of each refusal of a booking and of its success holds of the deal
pub book_elim : (Q : Deal → Type 0) (b : Booking) (ws : List Booking) → ((n : ℕ) → Q (stay ws n)) → (any (booked_by b.player) ws ≡ false → length ws < 64 → Q (accepted (ws ++ (b ∷ [])))) → Q (deal (book b) ws)
unfolding deal
book_elim Q b ws bad good = go (booking_answer b (any (booked_by b.player) ws) (ltb (length ws) 64)) refl
  where
    go : (a : Outcome (Unit {0})) → booking_answer b (any (booked_by b.player) ws) (ltb (length ws) 64) ≡ a → Q (settled ws (ws ++ (b ∷ [])) a)
    go (refused n) e = bad n
    go (gives u) e =
        let f : (any (booked_by b.player) ws ≡ false) × (ltb (length ws) 64 ≡ true) = booked b _ _ u e in
        good f.0 (ltb-true _ _ f.1)

-- and so of a withdrawal
pub withdraw_elim : (Q : Deal → Type 0) (p : ℕ) (ws : List Booking) → ((n : ℕ) → Q (stay ws n)) → (any (booked_by p) ws ≡ true → Q (accepted (without_guest p ws))) → Q (deal (withdraw p) ws)
unfolding deal
withdraw_elim Q p ws bad good = cases (any (booked_by p) ws) (λ m. rw m (good m)) (λ m. rw m (bad 11))

-- ---- answers noted as numbers

-- the deal's answer is the one that it was settled by
settled_answer : (ws new : List Booking) (a : Outcome (Unit {0})) → (settled ws new a).answer ≡ a
settled_answer ws new (refused n) = refl
settled_answer ws new (gives u) = refl

-- each answer of a booking is one that can be noted of it
booking_read : (b : Booking) (waits room : Bool) → answer_in 0 (refusal_of (booking_answer b waits room)) ≡ Some (booking_answer b waits room)
unfolding booking_answer answer_in
booking_read b waits room =
    cases (is_no_game b.game) (λ g. rw g) (λ g. cases (has_time_over b) (λ t. rw (g, t)) (λ t. rw (g, t) (in_time waits room)))
  where
    in_time : (waits room : Bool) → (let a : Outcome (Unit {0}) = cond waits (refused 9) (cond room (gives tt) (refused 10)) in answer_in 0 (refusal_of a) ≡ Some a)
    in_time true room = refl
    in_time false true = refl
    in_time false false = refl

-- and so of a withdrawal
withdrawal_read : (waits : Bool) → answer_in 1 (refusal_of (withdrawal_answer waits)) ≡ Some (withdrawal_answer waits)
unfolding answer_in
withdrawal_read true = refl
withdrawal_read false = refl

-- the number that is noted of an answer stands for that answer
pub read_back : (d : Deed) (ws : List Booking) → answer_in (content_of d).kind (refusal_of (deal d ws).answer) ≡ Some (deal d ws).answer
unfolding deal
read_back (book b) ws = rw (settled_answer ws (ws ++ (b ∷ []))) (booking_read b (any (booked_by b.player) ws) (ltb (length ws) 64))
read_back (withdraw p) ws = rw (settled_answer ws (without_guest p ws)) (withdrawal_read (any (booked_by p) ws))
