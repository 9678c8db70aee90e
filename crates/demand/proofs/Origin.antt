-- Every resend has its original in the list before it, and gets its answer. Who waits is what the calls and their answers say.
use Prim.Native.Nat.{ℕ}
use mathlib.Core.Path.{◌≡◌, refl, sym, ap, ◌∙◌, subst}
use mathlib.Core.Bool.{true, false, ◌&&◌}
use mathlib.Core.List.{List, [], ◌∷◌, ◌++◌}
use Rattle.std.specs.Prelude.{Option, None, Some}
use Rattle.base.specs.Lists.{seek, any}
use Rattle.base.specs.Refusals.{Outcome}
use Rattle.base.proofs.Cases.{never}
use Rattle.base.proofs.Lookup.{found_new}
use Rattle.seating.specs.declared.TeamComposition.{TeamComposition}
use Rattle.seating.specs.Seating.{sizes_over, seats}
use Rattle.matchmaker.specs.Quality.{MatchState}
use Rattle.hall.specs.Hall.{HallState, without_guests, Content, same, KeyRecord, empty, Deed, book, withdraw, deal, content_of, signed, answer_in, look_up, Judgement, known, clash, full, fresh, judge, Turn, turn}
use Rattle.demand.specs.Calls.{Call, keyed, round, no_kind, answered, Step, step, after, answers, original, resend, mark, originals, is_original, taken, moved, replay}
use Rattle.demand.proofs.Deals.{book_elim, withdraw_elim, read_back}
use Rattle.demand.proofs.Keys.{Old, judge_old, signatures, to_mark, mark_judge}
use Rattle.demand.proofs.Handled.{handled, step_handled, step_judged, sizes_step, note_of, log_elim, found_after}
use Rattle.demand.proofs.Orderly.{Sane, sane_step, sane_after, sane_empty, told, left}
use Rattle.demand.proofs.Thin.{grow_step, mark_after}

-- ---- where a note comes from

-- the call whose key is new at this hall left this note
record Born (h : HallState) (c : Call) (k : ℕ) (n : KeyRecord) : Type 0 where
  deed : Deed
  call : c ≡ keyed k deed
  new : judge h.log.records (signed k deed) ≡ fresh
  left : n ≡ note_of h k deed

-- a key that has no note, and has one after a call, is that call's
born : (h : HallState) (c : Call) (k : ℕ) (n : KeyRecord) → look_up k h.log.records ≡ None → look_up k (step h c).hall.log.records ≡ Some n → Born h c k n
born h c k n e = log_elim (λ rs. look_up k rs ≡ Some n → Born h c k n) h c (λ f. never cc) here
  where
    here : (j : ℕ) (d : Deed) → c ≡ keyed j d → judge h.log.records (signed j d) ≡ fresh → look_up k (h.log.records ++ (note_of h j d ∷ [])) ≡ Some n → Born h c k n
    here j d p q f =
        let l : (k ≡ j) × (n ≡ note_of h j d) = found_new (λ r. r.key) k n (note_of h j d) h.log.records e f in
        subst (λ (i : ℕ). Born h c i n) (sym l.0) (record { deed = d; call = p; new = q; left = l.1 })

-- the original among the calls, whose note it is
record Origin (h : HallState) (cs : List Call) (k : ℕ) (n : KeyRecord) : Type 0 where
  before : List Call
  deed : Deed
  between : List Call
  split : cs ≡ before ++ (keyed k deed ∷ between)
  first : mark (originals (signatures h.log.records) before) (keyed k deed) ≡ original
  content : n.content ≡ content_of deed
  answer : (a : Outcome (Unit {0})) → answer_in n.content.kind n.answer ≡ Some a → (step (after h before) (keyed k deed)).answer ≡ answered a

-- the first of the calls left it
origin_here : (h : HallState) (c : Call) (cs : List Call) (k : ℕ) (n : KeyRecord) → Sane h → Born h c k n → Origin h (c ∷ cs) k n
origin_here h c cs k n s b =
    record {
      before = [];
      deed = b.deed;
      between = cs;
      split = ap (λ (x : Call). x ∷ cs) b.call;
      first = mark_judge h.log.records (signed k b.deed) s.readable ∙ ap to_mark b.new;
      content = ap (λ (r : KeyRecord). r.content) b.left;
      answer = λ a e. ap (λ (x : Step). x.answer) (step_judged h k b.deed fresh s.bounded.within b.new) ∙ ap answered (told_by_lem a e);
    }
  where
    given : (x y : Outcome (Unit {0})) → Some x ≡ Some y → x ≡ y
    given x y e = cc

    told_by_lem : (a : Outcome (Unit {0})) → answer_in n.content.kind n.answer ≡ Some a → (deal b.deed h.waiting.bookings).answer ≡ a
    told_by_lem a e =
        given _ a
        (sym (read_back b.deed h.waiting.bookings) ∙ ap (λ (r : KeyRecord). answer_in r.content.kind r.answer) (sym b.left) ∙ e)

-- a key that has no note, and has one after the calls, is that of an original among them
trace : (h : HallState) (cs : List Call) (k : ℕ) (n : KeyRecord) → Sane h → look_up k h.log.records ≡ None → look_up k (after h cs).log.records ≡ Some n → Origin h cs k n
trace h [] k n s e f = never cc
trace h (c ∷ cs) k n s e f = go (look_up k (step h c).hall.log.records) refl (trace (step h c).hall cs k n (sane_step h c s))
  where
    go : (o : Option KeyRecord) → look_up k (step h c).hall.log.records ≡ o →
        (look_up k (step h c).hall.log.records ≡ None → look_up k (after (step h c).hall cs).log.records ≡ Some n → Origin (step h c).hall cs k n) →
        Origin h (c ∷ cs) k n
    go None p i =
        let r : Origin (step h c).hall cs k n = i p f in
        record {
          before = c ∷ r.before;
          deed = r.deed;
          between = r.between;
          split = ap (λ (l : List Call). c ∷ l) r.split;
          first = rw (grow_step h c s) r.first;
          content = r.content;
          answer = r.answer;
        }
    go (Some m) p i =
        let b : Born h c k m = born h c k m e p in
        let q : look_up k (after (step h c).hall cs).log.records ≡ Some m = found_after k m (step h c).hall cs p in
        let u : m ≡ n = cc in
        subst (Origin h (c ∷ cs) k) u (origin_here h c cs k m s b)

-- ---- each resend has its original

-- a resend is known
mark_resend : (v : Judgement) → to_mark v ≡ resend → (a : Outcome (Unit {0})) × (v ≡ known a)
mark_resend (known a) e = (a, refl)
mark_resend clash e = never cc
mark_resend full e = never cc
mark_resend fresh e = never cc

-- the call behind `pre` has an original there whose key stands for it; it answers as the original did, and leaves the hall
pub record Again (sizes : List TeamComposition) (pre : List Call) (c : Call) : Type 0 where
  pub key : ℕ
  pub deed : Deed
  pub first : Deed
  pub before : List Call
  pub between : List Call
  pub call : c ≡ keyed key deed
  pub earlier : pre ≡ before ++ (keyed key first ∷ between)
  pub marked : mark (originals [] before) (keyed key first) ≡ original
  pub alike : same (content_of first) (content_of deed) ≡ true
  pub hall : (step (after (empty sizes) pre) c).hall ≡ after (empty sizes) pre
  pub answer : (step (after (empty sizes) pre) c).answer ≡ (step (after (empty sizes) before) (keyed key first)).answer

module _ (sizes : List TeamComposition) (small : any sizes_over sizes ≡ false) where
  -- the hall behind these calls
  abbrev so_far : List Call → HallState
  so_far pre = after (empty sizes) pre

  -- the original that the note traces to is what a resend needs
  resent_from : (pre : List Call) (k : ℕ) (d : Deed) (a : Outcome (Unit {0})) (o : Old (so_far pre).log.records (signed k d) a) → Origin (empty sizes) pre k o.note → step (so_far pre) (keyed k d) ≡ record { hall = so_far pre; answer = answered a } → Again sizes pre (keyed k d)
  resent_from pre k d a o b t =
      record {
        key = k;
        deed = d;
        first = b.deed;
        before = b.before;
        between = b.between;
        call = refl;
        earlier = b.split;
        marked = b.first;
        alike = ap (λ (x : Content). same x (content_of d)) (sym b.content) ∙ o.alike;
        hall = ap (λ (x : Step). x.hall) t;
        answer = ap (λ (x : Step). x.answer) t ∙ sym (b.answer a o.reads);
      }

  -- so every resend has its original before it, answers as it did, and leaves the hall
  pub resent : (pre : List Call) (c : Call) → mark (originals [] pre) c ≡ resend → Again sizes pre c
  unfolding seek
  resent pre (round c) e = never cc
  resent pre (no_kind g x) e = never cc
  resent pre (keyed k d) e =
      go (mark_resend (judge (so_far pre).log.records (signed k d)) (sym (mark_after (empty sizes) pre k d (sane_empty sizes small)) ∙ e))
    where
      go : (a : Outcome (Unit {0})) × (judge (so_far pre).log.records (signed k d) ≡ known a) → Again sizes pre (keyed k d)
      go v =
          let o : Old (so_far pre).log.records (signed k d) v.0 = judge_old _ (signed k d) v.0 v.1 in
          resent_from pre k d v.0 o (trace (empty sizes) pre k o.note (sane_empty sizes small) refl o.found) (step_judged (so_far pre) k d (known v.0) (sane_after (empty sizes) pre (sane_empty sizes small)).bounded.within v.1)

-- ---- who waits, by calls and answers

-- one call moves those who wait as its answer says
moved_handled : (h : HallState) (c : Call) → Sane h →
    (handled h c).hall.waiting.bookings ≡ moved h.sizes (is_original (mark (signatures h.log.records) c) && taken (handled h c).answer) c (handled h c).answer h.waiting.bookings
moved_handled h (no_kind g x) s = refl
moved_handled h (round c) s = left h c ∙ ap (λ (ms : List MatchState). without_guests (seats ms) h.waiting.bookings) (sym (told h c s))
moved_handled h (keyed k (book b)) s = rw (mark_judge h.log.records (signed k (book b)) s.readable) (go (judge h.log.records (signed k (book b))))
  where
    go : (v : Judgement) → (let t : Turn = turn h (signed k (book b)) (deal (book b) h.waiting.bookings) v in
        t.hall.waiting.bookings ≡ moved h.sizes (is_original (to_mark v) && taken (answered t.answer)) (keyed k (book b)) (answered t.answer) h.waiting.bookings)
    go (known a) = refl
    go clash = refl
    go full = refl
    go fresh =
        book_elim (λ r. r.waiting ≡ moved h.sizes (taken (answered r.answer)) (keyed k (book b)) (answered r.answer) h.waiting.bookings) b h.waiting.bookings
        (λ n. refl) (λ m l. refl)
moved_handled h (keyed k (withdraw p)) s = rw (mark_judge h.log.records (signed k (withdraw p)) s.readable) (go (judge h.log.records (signed k (withdraw p))))
  where
    go : (v : Judgement) → (let t : Turn = turn h (signed k (withdraw p)) (deal (withdraw p) h.waiting.bookings) v in
        t.hall.waiting.bookings ≡ moved h.sizes (is_original (to_mark v) && taken (answered t.answer)) (keyed k (withdraw p)) (answered t.answer) h.waiting.bookings)
    go (known a) = refl
    go clash = refl
    go full = refl
    go fresh =
        withdraw_elim (λ r. r.waiting ≡ moved h.sizes (taken (answered r.answer)) (keyed k (withdraw p)) (answered r.answer) h.waiting.bookings) p h.waiting.bookings
        (λ n. refl) (λ m. refl)

-- and so does a step, by the sizes that the hall has
moved_step : (sizes : List TeamComposition) (h : HallState) (c : Call) → Sane h → h.sizes ≡ sizes →
    (step h c).hall.waiting.bookings ≡ moved sizes (is_original (mark (signatures h.log.records) c) && taken (step h c).answer) c (step h c).answer h.waiting.bookings
moved_step sizes h c s q =
    subst (λ (z : List TeamComposition). (step h c).hall.waiting.bookings ≡ moved z (is_original (mark (signatures h.log.records) c) && taken (step h c).answer) c (step h c).answer h.waiting.bookings) q
    (rw (step_handled h c s.bounded.within) (moved_handled h c s))

-- and so do any calls
pub replayed : (sizes : List TeamComposition) (h : HallState) (cs : List Call) → Sane h → h.sizes ≡ sizes → (after h cs).waiting.bookings ≡ replay sizes (signatures h.log.records) h.waiting.bookings cs (answers h cs)
replayed sizes h [] s q = refl
replayed sizes h (c ∷ cs) s q = rw (grow_step h c s, ← moved_step sizes h c s q) (replayed sizes (step h c).hall cs (sane_step h c s) (sizes_step h c ∙ q))
