-- What a key stands for: a whole booking, a withdrawal, or a booking noted when only its guest was. Here and nowhere else proofs look into `same`.
use Prim.Native.Nat.{ℕ}
use mathlib.Core.Path.{◌≡◌, refl, ap}
use mathlib.Core.Bool.{true, false}
use lib.Dec.{eqb}
use borrow.Author.Tests.{eqb-true, eq-eqb}
use Rattle.base.proofs.Cases.{cases, never}
use Rattle.base.proofs.Checks.{both_hold}
use Rattle.hall.specs.declared.Booking.{Booking}
use Rattle.hall.specs.Hall.{Content, booked_by, same_booking, call_kind, same, Deed, book, withdraw, content_of, answer_in}

-- ---- calls

-- two bookings are the same only where all six fields agree
pub same_booking_lem : (a b : Booking) → same_booking a b ≡ true → a ≡ b
same_booking_lem a b e =
    let p = both_hold (eqb a.player b.player) _ e in
    let g = both_hold (eqb a.game b.game) _ p.1 in
    let j = both_hold (eqb a.joined b.joined) _ g.1 in
    let r = both_hold (eqb a.rating_bits b.rating_bits) _ j.1 in
    let y = both_hold (eqb a.party b.party) (eqb a.role b.role) r.1 in
    let player : a.player ≡ b.player = eqb-true a.player b.player p.0 in
    let game : a.game ≡ b.game = eqb-true a.game b.game g.0 in
    let joined : a.joined ≡ b.joined = eqb-true a.joined b.joined j.0 in
    let bits : a.rating_bits ≡ b.rating_bits = eqb-true a.rating_bits b.rating_bits r.0 in
    let party : a.party ≡ b.party = eqb-true a.party b.party y.0 in
    let role : a.role ≡ b.role = eqb-true a.role b.role y.1 in
    λ i. record { player = player i; joined = joined i; rating_bits = bits i; party = party i; role = role i; game = game i }

-- a call knows another only where it brings the same
pub same_deed : (d e : Deed) → same (content_of d) (content_of e) ≡ true → d ≡ e
unfolding same
same_deed (book a) (book b) t = ap book (same_booking_lem a b t)
same_deed (book a) (withdraw q) t = never cc
same_deed (withdraw p) (book b) t = never cc
same_deed (withdraw p) (withdraw q) t = ap withdraw (eqb-true p q t)

-- so it does not know one that differs
pub same_differs : (d e : Deed) → (d ≡ e → ⊥) → same (content_of d) (content_of e) ≡ false
same_differs d e other = cases (same (content_of d) (content_of e)) (λ t. absurd (other (same_deed d e t))) (λ f. f)

-- and it knows itself
pub same_self : (d : Deed) → same (content_of d) (content_of d) ≡ true
unfolding same
same_self (book b) = rw (self b.player, self b.joined, self b.rating_bits, self b.party, self b.role, self b.game)
  where
    self : (n : ℕ) → eqb n n ≡ true
    self n = eq-eqb n n refl
same_self (withdraw p) = eq-eqb p p refl

-- ---- what is noted, by its kind

module _ (c : Content) (b : Booking) where
  -- a booking stands for that booking
  pub same_whole : c.kind ≡ 0 → same c (content_of (book b)) ≡ same_booking c.held b
  unfolding same
  same_whole e = rw e

  -- a booking noted when only its guest was stands for every booking of that guest
  pub same_older : c.kind ≡ 2 → same c (content_of (book b)) ≡ booked_by b.player c.held
  unfolding same
  same_older e = rw e

  -- nothing else stands for a booking
  pub same_no_booking : eqb c.kind 0 ≡ false → eqb c.kind 2 ≡ false → same c (content_of (book b)) ≡ false
  unfolding same
  same_no_booking e f = rw (f, e)

module _ (c : Content) (p : ℕ) where
  -- a withdrawal stands for every withdrawal of its guest
  pub same_withdrawal : c.kind ≡ 1 → same c (content_of (withdraw p)) ≡ booked_by p c.held
  unfolding same
  same_withdrawal e = rw e

  -- nothing else stands for a withdrawal
  pub same_no_withdrawal : eqb c.kind 1 ≡ false → same c (content_of (withdraw p)) ≡ false
  unfolding same
  same_no_withdrawal e = cases (eqb c.kind 2) (λ t. rw t) (λ f. rw (f, e))

-- ---- the answers that are noted

-- what stands for a booking has an answer that a booking can get
pub booking_answers : (c : Content) (b : Booking) (n : ℕ) → same c (content_of (book b)) ≡ true → answer_in c.kind n ≡ answer_in 0 n
unfolding same answer_in
booking_answers c b n e = rw (both_hold (eqb (call_kind c.kind) 0) _ e).0
