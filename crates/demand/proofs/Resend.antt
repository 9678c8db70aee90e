-- Behind an original, its key tells its answer to the same call, which is a resend, and clashes with any other.
use Prim.Native.Nat.{ℕ}
use mathlib.Core.Path.{◌≡◌, refl, sym, ap, ◌∙◌}
use mathlib.Core.Bool.{false, cond}
use mathlib.Core.List.{List, [], ◌∷◌, ◌++◌}
use Rattle.std.specs.Prelude.{Some}
use Rattle.base.specs.Lists.{seek, any}
use Rattle.base.proofs.Cases.{never, cond_true, cond_false}
use Rattle.base.proofs.Lookup.{found_last}
use Rattle.seating.specs.declared.TeamComposition.{TeamComposition}
use Rattle.seating.specs.Seating.{sizes_over}
use Rattle.hall.specs.Hall.{HallState, same, empty, Deed, deal, content_of, signed, look_up, Judgement, known, clash, full, fresh, judge}
use Rattle.hall.proofs.Sameness.{same_self, same_differs}
use Rattle.demand.specs.Calls.{Call, keyed, round, no_kind, step, after, original, resend, mark, originals}
use Rattle.demand.specs.Demand.{Clashing}
use Rattle.demand.proofs.Deals.{read_back}
use Rattle.demand.proofs.Keys.{judge_fresh, judge_noted, to_mark}
use Rattle.demand.proofs.Handled.{step_judged, note_of, found_after}
use Rattle.demand.proofs.Orderly.{Sane, sane_after, sane_empty}
use Rattle.demand.proofs.Thin.{mark_after}

-- an original's key is new
mark_original : (v : Judgement) → to_mark v ≡ original → v ≡ fresh
mark_original (known a) e = never cc
mark_original clash e = never cc
mark_original full e = never cc
mark_original fresh e = refl

-- two lists of calls leave the hall as the second leaves what the first left
pub after_append : (h : HallState) (cs ds : List Call) → after h (cs ++ ds) ≡ after (after h cs) ds
after_append h [] ds = refl
after_append h (c ∷ cs) ds = after_append (step h c).hall cs ds

-- ---- behind a call whose key is new

module _ (h : HallState) (k : ℕ) (d : Deed) (s : Sane h) (new : judge h.log.records (signed k d) ≡ fresh) where
  -- it leaves its note
  noted : look_up k (step h (keyed k d)).hall.log.records ≡ Some (note_of h k d)
  noted =
      rw (step_judged h k d fresh s.bounded.within new)
      (found_last (λ r. r.key) (note_of h k d) h.log.records (judge_fresh h.log.records (signed k d) new).unnoted)

  -- which, behind any calls, tells its answer to a call for which it stands, and clashes with any other
  told_again : (cs : List Call) (e : Deed) → judge (after h (keyed k d ∷ cs)).log.records (signed k e) ≡ cond (same (content_of d) (content_of e)) (known (deal d h.waiting.bookings).answer) clash
  told_again cs e =
      judge_noted (after h (keyed k d ∷ cs)).log.records (signed k e) (note_of h k d) (deal d h.waiting.bookings).answer
      (found_after k (note_of h k d) (step h (keyed k d)).hall cs noted) (read_back d h.waiting.bookings)

-- ---- behind an original of a list, where no size is over 8

module _ (sizes : List TeamComposition) (small : any sizes_over sizes ≡ false) (pre mid : List Call) (k : ℕ) (d : Deed) (first : mark (originals [] pre) (keyed k d) ≡ original) where
  -- the calls before it, it, and those behind it
  abbrev so_far : List Call
  so_far = pre ++ (keyed k d ∷ mid)

  -- what the key book then says to a call with its key
  judged : (e : Deed) → judge (after (empty sizes) so_far).log.records (signed k e) ≡ cond (same (content_of d) (content_of e)) (known (deal d (after (empty sizes) pre).waiting.bookings).answer) clash
  unfolding seek
  judged e =
      let s : Sane (empty sizes) = sane_empty sizes small in
      rw (after_append (empty sizes) pre (keyed k d ∷ mid))
      (told_again (after (empty sizes) pre) k d (sane_after (empty sizes) pre s) (mark_original _ (sym (mark_after (empty sizes) pre k d s) ∙ first)) mid e)

  -- and what such a call is
  marked : (e : Deed) → mark (originals [] so_far) (keyed k e) ≡ to_mark (judge (after (empty sizes) so_far).log.records (signed k e))
  unfolding seek
  marked e = mark_after (empty sizes) so_far k e (sane_empty sizes small)

  -- the same again is a resend
  again : mark (originals [] so_far) (keyed k d) ≡ resend
  again = marked d ∙ ap to_mark (judged d ∙ cond_true _ _ _ (same_self d))

  -- any other is neither original nor resend, is refused with 7, and leaves the hall
  pub clashing : (e : Deed) → (d ≡ e → ⊥) → Clashing sizes so_far (keyed k e)
  clashing e other =
      let j : judge (after (empty sizes) so_far).log.records (signed k e) ≡ clash = judged e ∙ cond_false _ _ _ (same_differs d e other) in
      record {
        marked = marked e ∙ ap to_mark j;
        turned = step_judged (after (empty sizes) so_far) k e clash (sane_after (empty sizes) so_far (sane_empty sizes small)).bounded.within j;
      }

-- an original that comes again is a resend, whatever the sizes are: the calls alone say so, and any sizes do to prove it
pub named : (pre mid : List Call) (c : Call) → mark (originals [] pre) c ≡ original → mark (originals [] (pre ++ (c ∷ mid))) c ≡ resend
unfolding seek
named pre mid (keyed k d) m = again [] refl pre mid k d m
named pre mid (round c) m = never cc
named pre mid (no_kind g s) m = never cc
