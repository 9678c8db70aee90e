-- A game that keeps enough is served within eight dispatches not refused.
use Prim.Native.Nat.{ℕ, zero, suc, ◌+◌, ◌≤◌, ◌<◌}
use mathlib.Core.Path.{◌≡◌, refl, ap, ◌∙◌}
use mathlib.Core.Bool.{true, false}
use mathlib.Core.List.{List, [], ◌∷◌}
use Rattle.std.specs.Prelude.{Some}
use native.Mathlib.Omega.{arith}
use borrow.Author.Tests.{eqb-true}
use lib.Dec.{eqb}
use Rattle.base.proofs.Cases.{cases}
use Rattle.hall.specs.Games.{next_game}
use Rattle.hall.specs.Hall.{HallState, empty}
use Rattle.hall.specs.Rounds.{RoundCall, ready}
use Rattle.hall.proofs.Circle.{ahead, ahead_few, some_next}
use Rattle.hall.proofs.Dispatch.{last_low}
use Rattle.demand.specs.Calls.{Call, keyed, round, no_kind, step, after, answers, one_if, dispatches, dispatches_in}
use Rattle.demand.specs.Fair.{Dispatch, KeepsEnough, ServedWithin, Fair, Fairness}
use Rattle.demand.proofs.Dispatch.{Dispatched, dispatched, last_stays, dispatch_nearer}

-- ---- one call more, in front of others

module _ (h : HallState) (c : Call) (cs : List Call) where
  -- a dispatch of the others is a dispatch of them all
  abbrev behind_first : Dispatch (step h c).hall cs → Dispatch h (c ∷ cs)
  behind_first d =
      record { before = c ∷ d.before; call = d.call; behind = d.behind; place = ap (λ (l : List Call). c ∷ l) d.place; given = d.given }

  module _ (g n m : ℕ) (fits : one_if (dispatches c (step h c).answer) + n ≤ m) where
    -- what holds of the first m of them all holds of the first n of the others
    enough_behind : KeepsEnough h (c ∷ cs) m g → KeepsEnough (step h c).hall cs n g
    enough_behind k d e = k (behind_first d) (omega (arith, e))

    -- one of the first n of the others is one of the first m of them all
    served_behind : ServedWithin (step h c).hall cs n g → ServedWithin h (c ∷ cs) m g
    served_behind s = record { dispatch = behind_first s.dispatch; early = omega (arith, s.early); serves = s.serves }

-- ---- a game that has enough at each of the next n dispatches, and before which fewer than n games stand in the circle, is served by then

module _ (g : ℕ) (low : g < 8) where
  -- from hall h on, of these calls
  abbrev pub Due : ℕ → HallState → List Call → Type 0
  Due n h cs = ahead h.served g < n → KeepsEnough h cs n g → n ≤ dispatches_in cs (answers h cs) → ServedWithin h cs n g

  -- a dispatch serves game g, or brings it nearer
  due_dispatch : (n : ℕ) (h : HallState) (c : RoundCall) (cs : List Call) → dispatches (round c) (step h (round c)).answer ≡ true →
      Due n (step h (round c)).hall cs → Due (suc n) h (round c ∷ cs)
  due_dispatch n h c cs t i a k m = go (some_next (ready h) h.served g low (last_low h d.within) enough)
    where
      d : Dispatched h c
      d = dispatched h c t

      here : Dispatch h (round c ∷ cs)
      here = record { before = []; call = c; behind = cs; place = refl; given = t }

      enough : ready h g ≡ true
      enough = k here (omega arith)

      fits : one_if (dispatches (round c) (step h (round c)).answer) + n ≤ suc n
      fits = rw t (omega arith)

      go : (x : ℕ) × (next_game (ready h) h.served ≡ Some x) → ServedWithin h (round c ∷ cs) (suc n) g
      go (x, e) =
          cases (eqb x g) (λ q. record { dispatch = here; early = omega arith; serves = d.names ∙ e ∙ ap Some (eqb-true x g q) })
          (λ q. served_behind h (round c) cs g n (suc n) fits
          (i (omega (arith, dispatch_nearer h c g x low t enough (d.names ∙ e) q))
          (enough_behind h (round c) cs g n (suc n) fits k) (omega (arith, rw t at m))))

  -- any other call leaves it where it is
  due_other : (n : ℕ) (h : HallState) (c : Call) (cs : List Call) → dispatches c (step h c).answer ≡ false → Due n (step h c).hall cs → Due n h (c ∷ cs)
  due_other n h c cs f i a k m =
      let fits : one_if (dispatches c (step h c).answer) + n ≤ n = rw f (omega arith) in
      served_behind h c cs g n n fits (i (rw (last_stays h c f) a) (enough_behind h c cs g n n fits k) (omega (arith, rw f at m)))

  -- so it is served by then
  fair_within : (n : ℕ) (h : HallState) (cs : List Call) → Due n h cs
  fair_within zero h cs = λ a k m. absurd (omega arith)
  fair_within (suc n) h [] = λ a k m. absurd (omega arith)
  fair_within (suc n) h (keyed k d ∷ cs) = due_other (suc n) h (keyed k d) cs refl (fair_within (suc n) (step h (keyed k d)).hall cs)
  fair_within (suc n) h (round c ∷ cs) =
      cases (dispatches (round c) (step h (round c)).answer) (λ t. due_dispatch n h c cs t (fair_within n (step h (round c)).hall cs))
      (λ f. due_other (suc n) h (round c) cs f (fair_within (suc n) (step h (round c)).hall cs))
  fair_within (suc n) h (no_kind j s ∷ cs) = due_other (suc n) h (no_kind j s) cs refl (fair_within (suc n) (step h (no_kind j s)).hall cs)

-- ---- eight are enough

-- from any hall
pub fair_from : (h : HallState) (calls : List Call) (g : ℕ) → g < 8 → Fair h calls g
fair_from h calls g low = fair_within g low 8 h calls (ahead_few h.served g)

-- so behind any calls from an empty hall
pub fair : Fairness
fair sizes pre calls g low = fair_from (after (empty sizes) pre) calls g low
