-- Bookings of which only kind and guest were noted: no call makes such a note, and behind any calls it answers as before.
use Prim.Native.Nat.{ℕ}
use mathlib.Core.Path.{◌≡◌, refl, sym, ap, ◌∙◌}
use mathlib.Core.Bool.{true, false}
use mathlib.Core.List.{List, [], ◌∷◌, append-nil}
use native.Mathlib.Omega.{arith}
use borrow.Author.Tests.{eqb-true, eq-eqb, ne_eqb}
use lib.Dec.{eqb}
use lib.ListN.{take, length-take}
use Rattle.base.specs.Refusals.{Outcome, refused}
use Rattle.base.specs.Lists.{keep}
use Rattle.base.proofs.Cases.{cond_true, cond_false}
use Rattle.base.proofs.Loops.{keep_append}
use Rattle.hall.specs.declared.Hall.{Hall}
use Rattle.hall.specs.Hall.{HallState, KeyRecord, hall_of, is_older, is_over, same, Deed, book, withdraw, content_of, signed, known, clash}
use Rattle.hall.proofs.KeyLaws.{paired_fits}
use Rattle.hall.proofs.Sameness.{same_older, same_no_withdrawal}
use Rattle.demand.specs.Calls.{Call, keyed, answered, step, after}
use Rattle.demand.specs.Older.{older_notes, Stated, NotedBefore, AsBefore, Older}
use Rattle.demand.proofs.Keys.{judge_noted}
use Rattle.demand.proofs.Handled.{step_judged, note_of, log_elim, found_after}
use Rattle.demand.proofs.Bounded.{bounded, bounded_after}

-- ---- no call makes such a note

-- what is noted of a call is none
none_older : (h : HallState) (k : ℕ) (d : Deed) → older_notes (note_of h k d ∷ []) ≡ []
unfolding keep
none_older h k (book b) = refl
none_older h k (withdraw p) = refl

-- so a step leaves those that are there
stay_step : (h : HallState) (c : Call) → older_notes (step h c).hall.log.records ≡ older_notes h.log.records
stay_step h c =
    log_elim (λ rs. older_notes rs ≡ older_notes h.log.records) h c refl
    (λ k d p e. keep_append (λ (r : KeyRecord). is_older r.content.kind) h.log.records (note_of h k d ∷ []) ∙ rw (none_older h k d) (append-nil (older_notes h.log.records)))

-- and so do any calls
stay_after : (h : HallState) (cs : List Call) → older_notes (after h cs).log.records ≡ older_notes h.log.records
stay_after h [] = refl
stay_after h (c ∷ cs) = stay_after (step h c).hall cs ∙ stay_step h c

-- ---- it answers as before

module _ (h : HallState) (within : is_over h ≡ false) (k guest : ℕ) (a : Outcome (Unit {0})) (n : NotedBefore h k guest a) where
  -- its kind
  kind : n.note.content.kind ≡ 2
  kind = eqb-true n.note.content.kind 2 n.older

  -- a call for which it stands gets its answer
  known_there : (d : Deed) → same n.note.content (content_of d) ≡ true → step h (keyed k d) ≡ record { hall = h; answer = answered a }
  known_there d e = step_judged h k d (known a) within (judge_noted h.log.records (signed k d) n.note a n.found n.answer ∙ cond_true _ _ _ e)

  -- any other gets 7
  clash_there : (d : Deed) → same n.note.content (content_of d) ≡ false → step h (keyed k d) ≡ record { hall = h; answer = answered (refused 7) }
  clash_there d e = step_judged h k d clash within (judge_noted h.log.records (signed k d) n.note a n.found n.answer ∙ cond_false _ _ _ e)

  -- it stands for the bookings of its guest
  as_before : AsBefore h k guest a
  as_before =
      record {
        own = λ b p. known_there (book b) (same_older n.note.content b kind ∙ eq-eqb _ b.player (n.player ∙ sym p));
        others = λ b p. clash_there (book b) (same_older n.note.content b kind ∙ ne_eqb _ b.player (λ q. p (sym q ∙ n.player)));
        withdrawals = λ p. clash_there (withdraw p) (same_no_withdrawal n.note.content p (ap (λ (i : ℕ). eqb i 1) kind));
      }

-- behind any calls it is found there
noted_after : (h : HallState) (cs : List Call) (k guest : ℕ) (a : Outcome (Unit {0})) → NotedBefore h k guest a → NotedBefore (after h cs) k guest a
noted_after h cs k guest a n =
    record { note = n.note; found = found_after k n.note h cs n.found; older = n.older; player = n.player; answer = n.answer }

-- ---- both, of every hall and every list of calls

pub older : (h : HallState) (calls : List Call) → Older h calls
older h calls =
    record {
      stay = stay_after h calls;
      answers = λ s e k guest a n. as_before (after h calls) (bounded_after h calls (bounded h e s)).within k guest a (noted_after h calls k guest a n);
    }

-- ---- a hall in memory

-- it holds no more than it states
pub stated : (h : Hall) → Stated (hall_of h)
stated h =
    record {
      waiting = omega (arith, length-take h.waiting h.bookings);
      noted = omega (arith, paired_fits (take h.noted h.keys) (take h.noted h.notes), length-take h.noted h.keys);
    }
