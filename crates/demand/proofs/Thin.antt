-- Resends change nothing, so any of them may be left out.
use Prim.Native.Nat.{ℕ}
use mathlib.Core.Path.{◌≡◌, refl, sym}
use mathlib.Core.Bool.{Bool, true, ◌&&◌}
use mathlib.Core.List.{List, [], ◌∷◌, map-append}
use Rattle.base.proofs.Cases.{cases, never}
use Rattle.base.proofs.Checks.{both_hold}
use Rattle.hall.specs.Hall.{HallState, Deed, signed, Judgement, known, clash, full, fresh, judge}
use Rattle.demand.specs.Calls.{Call, keyed, round, no_kind, step, after, answers, grow_by, mark, grow, originals, is_resend, leave, thin}
use Rattle.demand.proofs.Keys.{signature_of, signatures, to_mark, mark_judge}
use Rattle.demand.proofs.Handled.{turning, handled, step_handled, log_stays}
use Rattle.demand.proofs.Orderly.{Sane, sane_step, sane_after}

-- ---- the originals so far are those whose notes the key book has

-- a call adds its signature to the originals where it adds its note to the key book
grow_handled : (h : HallState) (c : Call) → Sane h → grow (signatures h.log.records) c ≡ signatures (handled h c).hall.log.records
grow_handled h (round c) s = rw (log_stays h c) refl
grow_handled h (no_kind g x) s = refl
grow_handled h (keyed k d) s = rw (mark_judge h.log.records (signed k d) s.readable) (go (judge h.log.records (signed k d)))
  where
    go : (v : Judgement) → grow_by (signatures h.log.records) (signed k d) (to_mark v) ≡ signatures (turning h k d v).hall.log.records
    go (known a) = refl
    go clash = refl
    go full = refl
    go fresh = sym (map-append signature_of h.log.records _)

-- and so does a step
pub grow_step : (h : HallState) (c : Call) → Sane h → grow (signatures h.log.records) c ≡ signatures (step h c).hall.log.records
grow_step h c s = rw (step_handled h c s.bounded.within) (grow_handled h c s)

-- and so do any calls
grow_after : (h : HallState) (cs : List Call) → Sane h → originals (signatures h.log.records) cs ≡ signatures (after h cs).log.records
grow_after h [] s = refl
grow_after h (c ∷ cs) s = rw (grow_step h c s) (grow_after (step h c).hall cs (sane_step h c s))

-- so behind any calls a keyed call is what the book says of it
pub mark_after : (h : HallState) (cs : List Call) (k : ℕ) (d : Deed) → Sane h → mark (originals (signatures h.log.records) cs) (keyed k d) ≡ to_mark (judge (after h cs).log.records (signed k d))
mark_after h cs k d s = rw (grow_after h cs s) (mark_judge (after h cs).log.records (signed k d) (sane_after h cs s).readable)

-- ---- a resend leaves the hall

-- a call that is marked a resend changes nothing
resend_handled : (h : HallState) (c : Call) → Sane h → is_resend (mark (signatures h.log.records) c) ≡ true → (handled h c).hall ≡ h
resend_handled h (round c) s e = never cc
resend_handled h (no_kind g x) s e = never cc
resend_handled h (keyed k d) s e = go (judge h.log.records (signed k d)) (rw (mark_judge h.log.records (signed k d) s.readable) at e)
  where
    go : (v : Judgement) → is_resend (to_mark v) ≡ true → (turning h k d v).hall ≡ h
    go (known a) q = refl
    go clash q = refl
    go full q = refl
    go fresh q = never cc

-- and so does a step
resend_stays : (h : HallState) (c : Call) → Sane h → is_resend (mark (signatures h.log.records) c) ≡ true → (step h c).hall ≡ h
resend_stays h c s e = rw (step_handled h c s.bounded.within) (resend_handled h c s e)

-- ---- any resends left out: the hall ends alike, and all other calls answer alike

-- what Thinned says, from any hall
pub record Left (h : HallState) (m : List Bool) (cs : List Call) : Type 0 where
  pub hall : after h (thin m cs) ≡ after h cs
  pub answers : answers h (thin m cs) ≡ thin m (answers h cs)

-- any calls named by a choice, of which just the resends are left out
pub left_out : (h : HallState) (m : List Bool) (cs : List Call) → Sane h → Left h (leave m (signatures h.log.records) cs) cs
left_out h m [] s = record { hall = refl; answers = refl }
left_out h [] (c ∷ cs) s = record { hall = refl; answers = refl }
left_out h (b ∷ m) (c ∷ cs) s =
    let i : Left (step h c).hall (leave m (signatures (step h c).hall.log.records) cs) cs = left_out (step h c).hall m cs (sane_step h c s) in
    rw (grow_step h c s)
    (cases (b && is_resend (mark (signatures h.log.records) c))
    (λ t. let q : (step h c).hall ≡ h = resend_stays h c s (both_hold b _ t).1 in rw t (record { hall = cc; answers = cc }))
    (λ f. rw f (record { hall = i.hall; answers = cc })))
