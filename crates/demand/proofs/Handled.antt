-- One call of any hall, be it over a limit or not: the sizes stay, and so do the notes, behind which there may be one more.
use Prim.Native.Nat.{ℕ}
use mathlib.Core.Path.{◌≡◌, refl, sym, ◌∙◌}
use mathlib.Core.Bool.{false}
use mathlib.Core.List.{List, [], ◌∷◌, ◌++◌, append-nil}
use Rattle.std.specs.Prelude.{Some}
use Rattle.base.specs.Refusals.{Outcome, refused, gives}
use Rattle.base.proofs.Cases.{cases}
use Rattle.base.proofs.Lookup.{found_append}
use Rattle.hall.specs.Hall.{HallState, KeyRecord, is_over, Deed, deal, signed, recorded, look_up, Judgement, fresh, judge, Turn, turn}
use Rattle.hall.specs.Rounds.{RoundCall, Found, served_by, round_found, departing, round_rule}
use Rattle.demand.specs.Calls.{Call, keyed, round, no_kind, no_kind_refusal, answered, Step, turned_away, rounded, step, after}
use Rattle.demand.specs.Demand.{Grown}
use Rattle.demand.proofs.Keys.{turn_elim}

-- ---- a call of a hall that is not over a limit

-- a keyed call to which the key book says this
abbrev pub turning : HallState → ℕ → Deed → Judgement → Step
turning h k d v =
    let t : Turn = turn h (signed k d) (deal d h.waiting.bookings) v in
    record { hall = t.hall; answer = answered t.answer }

-- any call
abbrev pub handled : HallState → Call → Step
handled h (keyed k d) = turning h k d (judge h.log.records (signed k d))
handled h (round c) = rounded (round_rule h c)
handled h (no_kind g s) = rounded (turned_away h s (no_kind_refusal g))

-- a keyed call is not refused with 1
pub step_handled : (h : HallState) (c : Call) → is_over h ≡ false → step h c ≡ handled h c
unfolding step
step_handled h (keyed k d) e = rw e
step_handled h (round c) e = refl
step_handled h (no_kind g s) e = refl

-- what the key book says to it, it gets
pub step_judged : (h : HallState) (k : ℕ) (d : Deed) (v : Judgement) → is_over h ≡ false → judge h.log.records (signed k d) ≡ v → step h (keyed k d) ≡ turning h k d v
step_judged h k d v e j = rw (step_handled h (keyed k d) e, j)

-- ---- any hall

-- over a limit it stays as it is: what holds of it, and where the call is handled, holds of what a step leaves
pub step_elim : (Q : HallState → Type 0) (h : HallState) (c : Call) → Q h → Q (handled h c).hall → Q (step h c).hall
unfolding step
step_elim Q h (keyed k d) stays then = cases (is_over h) (λ t. rw t stays) (λ f. rw f then)
step_elim Q h (round c) stays then = then
step_elim Q h (no_kind g s) stays then = then

-- ---- the sizes stay as they were given

-- by a call
sizes_handled : (h : HallState) (c : Call) → (handled h c).hall.sizes ≡ h.sizes
sizes_handled h (keyed k d) = turn_elim (λ r. r.hall.sizes ≡ h.sizes) h (signed k d) (deal d h.waiting.bookings) (λ a. refl) (λ e. refl)
sizes_handled h (round c) = go (round_found h c)
  where
    go : (x : Outcome Found) → (departing h (served_by h c.round) x).sizes ≡ h.sizes
    go (refused n) = refl
    go (gives f) = refl
sizes_handled h (no_kind g x) = refl

-- by a step
pub sizes_step : (h : HallState) (c : Call) → (step h c).hall.sizes ≡ h.sizes
sizes_step h c = step_elim (λ i. i.sizes ≡ h.sizes) h c refl (sizes_handled h c)

-- by a list
pub sizes_after : (h : HallState) (cs : List Call) → (after h cs).sizes ≡ h.sizes
sizes_after h [] = refl
sizes_after h (c ∷ cs) = sizes_after (step h c).hall cs ∙ sizes_step h c

-- ---- the notes only grow

-- a round leaves the key book
pub log_stays : (h : HallState) (c : RoundCall) → (round_rule h c).hall.log ≡ h.log
log_stays h c = go (round_found h c)
  where
    go : (x : Outcome Found) → (departing h (served_by h c.round) x).log ≡ h.log
    go (refused n) = refl
    go (gives f) = refl

-- what is noted of a call whose key is new
abbrev pub note_of : HallState → ℕ → Deed → KeyRecord
note_of h k d = recorded (signed k d) (deal d h.waiting.bookings).answer

-- a step leaves the notes, or its key is new and it is noted
pub log_elim : (Q : List KeyRecord → Type 0) (h : HallState) (c : Call) → Q h.log.records →
    ((k : ℕ) (d : Deed) → c ≡ keyed k d → judge h.log.records (signed k d) ≡ fresh → Q (h.log.records ++ (note_of h k d ∷ []))) →
    Q (step h c).hall.log.records
unfolding step
log_elim Q h (keyed k d) stays new =
    step_elim (λ i. Q i.log.records) h (keyed k d) stays
    (turn_elim (λ r. Q r.hall.log.records) h (signed k d) (deal d h.waiting.bookings) (λ a. stays) (new k d refl))
log_elim Q h (round c) stays new = rw (log_stays h c) stays
log_elim Q h (no_kind g s) stays new = stays

-- by one note or none
pub grows : (h : HallState) (c : Call) → Grown h.log.records (step h c).hall.log.records
grows h c =
    log_elim (Grown h.log.records) h c (record { behind = []; split = sym (append-nil h.log.records) })
    (λ k d p e. record { behind = _; split = refl })

-- a note that is found is found after any calls
pub found_after : (k : ℕ) (n : KeyRecord) (h : HallState) (cs : List Call) → look_up k h.log.records ≡ Some n → look_up k (after h cs).log.records ≡ Some n
found_after k n h [] e = e
found_after k n h (c ∷ cs) e =
    found_after k n (step h c).hall cs
    (log_elim (λ rs. look_up k rs ≡ Some n) h c e (λ j d p f. found_append (λ r. r.key) k n h.log.records _ e))
