-- A round of one game leaves the bookings of every other game as they are.
use Prim.Native.Nat.{ℕ}
use mathlib.Core.Path.{◌≡◌, refl, sym, ap, ◌∙◌}
use mathlib.Core.Bool.{true, false, not}
use mathlib.Core.List.{List, [], ◌∷◌, map}
use Rattle.std.specs.Prelude.{Option, None, Some}
use borrow.Author.Tests.{eqb-true}
use lib.Dec.{eqb}
use Rattle.base.specs.Refusals.{Outcome, refused, gives}
use Rattle.base.specs.Lists.{seek, keep, member, Distinct, Within, All}
use Rattle.base.proofs.Cases.{cases}
use Rattle.base.proofs.All.{all_both, all_so}
use Rattle.base.proofs.Every.{keep_keep}
use Rattle.base.proofs.Members.{eqb_sym, absent_all, absent_cons, absent_keep, absent_within}
use Rattle.seating.specs.Seating.{seats}
use Rattle.hall.specs.declared.Booking.{Booking}
use Rattle.hall.specs.Games.{eligible, eligible_by}
use Rattle.hall.specs.Hall.{HallState, without_guests}
use Rattle.hall.specs.Rounds.{RoundCall, Found, served_by, game_of, eligible_in, round_found, departing, round_rule}
use Rattle.hall.proofs.Found.{players, round_drawn}

module _ (g : ℕ) where
  -- the guest of a booking for game g is not among those who wait for this game, if it is one
  Elsewhere : Option ℕ → List Booking → Booking → Type 0
  Elsewhere o ws b = eqb b.game g ≡ true → member b.player (map (λ b. b.player) (eligible_by o ws)) ≡ false

  -- where nobody waits twice, whoever waits for game g waits for no other
  elsewhere : (o : Option ℕ) → (o ≡ Some g → ⊥) → (ws : List Booking) → Distinct (map (λ b. b.player) ws) → All (Elsewhere o ws) ws
  unfolding Elsewhere keep seek
  elsewhere o other [] d = tt
  elsewhere None other (b ∷ ws) d = (λ e. refl, elsewhere None other ws d.1)
  elsewhere (Some k) other (b ∷ ws) d =
      (here, all_so _ (Elsewhere (Some k) (b ∷ ws)) behind ws (all_both _ (Elsewhere (Some k) ws) ws (absent_all (λ b. b.player) b.player ws d.0) (elsewhere (Some k) other ws d.1)))
    where
      here : Elsewhere (Some k) (b ∷ ws) b
      here e =
          cases (eqb b.game k)
          (λ t. absurd (other (ap Some (sym (eqb-true b.game k t) ∙ eqb-true b.game g e))))
          (λ f. rw f (absent_keep (λ b. b.player) _ b.player ws d.0))

      behind : (x : Booking) → (eqb x.player b.player ≡ false) × Elsewhere (Some k) ws x → Elsewhere (Some k) (b ∷ ws) x
      behind x p e =
          cases (eqb b.game k)
          (λ t. rw t (absent_cons x.player b.player (map (λ b. b.player) (eligible k ws)) (eqb_sym b.player x.player ∙ p.0) (p.1 e)))
          (λ f. rw f (p.1 e))

  -- so guests of another game leave, and those of game g stay
  others_stay : (o : Option ℕ) → (o ≡ Some g → ⊥) → (ws : List Booking) (ps : List ℕ) → Distinct (map (λ b. b.player) ws) →
      Within ps (map (λ b. b.player) (eligible_by o ws)) → eligible g (without_guests ps ws) ≡ eligible g ws
  unfolding Elsewhere
  others_stay o other ws ps d w =
      keep_keep _ _ ws (all_so (Elsewhere o ws) _ (λ b e t. ap not (absent_within b.player ps _ w (e t))) ws (elsewhere o other ws d))

-- a round leaves the bookings of a game that is not its own
pub round_others : (h : HallState) (c : RoundCall) (g : ℕ) → Distinct (map (λ b. b.player) h.waiting.bookings) → (game_of h c ≡ Some g → ⊥) →
    eligible g (round_rule h c).hall.waiting.bookings ≡ eligible g h.waiting.bookings
round_others h c g d other = go (round_found h c) refl
  where
    go : (x : Outcome Found) → round_found h c ≡ x → eligible g (departing h (served_by h c.round) x).waiting.bookings ≡ eligible g h.waiting.bookings
    go (refused n) e = refl
    go (gives f) e =
        others_stay g (game_of h c) other h.waiting.bookings (seats f.matches) d
        (rw (players (eligible_in h c)) at (round_drawn h c f e d).seating.waiting)
