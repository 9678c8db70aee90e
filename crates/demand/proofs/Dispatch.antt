-- What one call does to the last game served: a dispatch not refused makes it the game whose turn it is, and every other call leaves it.
use Prim.Native.Nat.{ℕ, ◌<◌}
use mathlib.Core.Path.{◌≡◌, refl, sym, ap, ◌∙◌, subst}
use mathlib.Core.Bool.{true, false, and-false, and-true}
use Rattle.std.specs.Prelude.{Option, None, Some, unwrap_or}
use lib.Dec.{eqb}
use Rattle.base.specs.Refusals.{Outcome, refused, gives}
use Rattle.base.proofs.Cases.{never}
use Rattle.base.proofs.Checks.{both_hold}
use Rattle.hall.specs.Games.{next_game}
use Rattle.hall.specs.Hall.{HallState, is_over, deal, signed}
use Rattle.hall.specs.Rounds.{Round, of_game, dispatch, RoundCall, Found, ready, served_by, round_found, departing, turn_from}
use Rattle.hall.proofs.Circle.{ahead, nearer}
use Rattle.hall.proofs.Found.{round_within}
use Rattle.hall.proofs.Dispatch.{last_low}
use Rattle.demand.specs.Calls.{Call, keyed, round, no_kind, rounded, step, served_of, is_dispatch, dispatches}
use Rattle.demand.proofs.Keys.{turn_elim}
use Rattle.demand.proofs.Handled.{step_elim}

-- a dispatch serves the game whose turn it is
dispatch_next : (h : HallState) (r : Round) → is_dispatch r ≡ true → served_by h r ≡ next_game (ready h) h.served
dispatch_next h (of_game g m) e = never cc
dispatch_next h (dispatch r) e = refl

-- a round by game serves none
by_game_none : (h : HallState) (r : Round) → is_dispatch r ≡ false → served_by h r ≡ None
by_game_none h (of_game g m) e = refl
by_game_none h (dispatch r) e = never cc

-- a dispatch not refused finds the hall within its limits, serves the game whose turn it is, and keeps it as the last one served
pub record Dispatched (h : HallState) (c : RoundCall) : Type 0 where
  pub within : is_over h ≡ false
  pub names : served_of (step h (round c)).answer ≡ next_game (ready h) h.served
  pub keeps : (step h (round c)).hall.served ≡ unwrap_or (next_game (ready h) h.served) h.served

-- that is what it means to be one
pub dispatched : (h : HallState) (c : RoundCall) → dispatches (round c) (step h (round c)).answer ≡ true → Dispatched h c
unfolding step
dispatched h c e = go (round_found h c) refl e
  where
    go : (x : Outcome Found) → round_found h c ≡ x → dispatches (round c) (rounded (turn_from h c x)).answer ≡ true → Dispatched h c
    go (refused n) p e = never (let z : false ≡ true = sym (and-false (is_dispatch c.round)) ∙ e in cc)
    go (gives f) p e =
        let q : served_by h c.round ≡ next_game (ready h) h.served = dispatch_next h c.round (both_hold _ true e).0 in
        record { within = round_within h c f p; names = rw p q; keeps = rw p (ap (λ (o : Option ℕ). unwrap_or o h.served) q) }

-- only a dispatch not refused changes the last game served
pub last_stays : (h : HallState) (c : Call) → dispatches c (step h c).answer ≡ false → (step h c).hall.served ≡ h.served
unfolding step
last_stays h (keyed k d) e =
    step_elim (λ i. i.served ≡ h.served) h (keyed k d) refl
    (turn_elim (λ r. r.hall.served ≡ h.served) h (signed k d) (deal d h.waiting.bookings) (λ a. refl) (λ n. refl))
last_stays h (round c) e = go (round_found h c) e
  where
    go : (x : Outcome Found) → dispatches (round c) (rounded (turn_from h c x)).answer ≡ false → (departing h (served_by h c.round) x).served ≡ h.served
    go (refused n) e = refl
    go (gives f) e = ap (λ (o : Option ℕ). unwrap_or o h.served) (by_game_none h c.round (sym (and-true (is_dispatch c.round)) ∙ e))
last_stays h (no_kind g s) e = refl

-- a dispatch that serves another game than g, while g has enough, brings g nearer
pub dispatch_nearer : (h : HallState) (c : RoundCall) (g x : ℕ) → g < 8 → dispatches (round c) (step h (round c)).answer ≡ true → ready h g ≡ true →
    served_of (step h (round c)).answer ≡ Some x → eqb x g ≡ false → ahead (step h (round c)).hall.served g < ahead h.served g
dispatch_nearer h c g x low t enough e f =
    let d : Dispatched h c = dispatched h c t in
    let n : next_game (ready h) h.served ≡ Some x = sym d.names ∙ e in
    subst (λ (l : ℕ). ahead l g < ahead h.served g) (sym (d.keeps ∙ ap (λ (o : Option ℕ). unwrap_or o h.served) n))
    (nearer (ready h) h.served g low (last_low h d.within) enough x n f)
