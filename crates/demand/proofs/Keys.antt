-- The key book: what it says to a call, and which notes are found. What a key stands for is compared by `same`, which stays shut.
use Prim.Native.Nat.{ℕ, ◌<◌}
use mathlib.Core.Path.{◌≡◌, refl, ap, ◌∙◌}
use mathlib.Core.Bool.{true, cond}
use mathlib.Core.List.{List, [], ◌∷◌, map}
use Rattle.std.specs.Prelude.{Option, None, Some}
use lib.Dec.{eqb, ltb}
use lib.ListN.{length, length-map}
use borrow.Author.Tests.{ltb-true}
use Rattle.base.specs.Refusals.{Outcome, refused}
use Rattle.base.specs.Lists.{seek, All}
use Rattle.base.proofs.Cases.{cases, never}
use Rattle.base.proofs.Lookup.{found_all}
use Rattle.hall.specs.Hall.{HallState, KeyRecord, Deal, Signature, same, answer_in, look_up, Judgement, known, clash, full, fresh, known_or, judge_by, judge, Turn, turn}
use Rattle.demand.specs.Calls.{Mark, original, resend, other, mark_by, mark_of}

-- ---- the verdicts, gone through once

-- a keyed call leaves the hall, or its key is new and is noted
pub turn_elim : (Q : Turn → Type 0) (h : HallState) (s : Signature) (d : Deal) → ((a : Outcome (Unit {0})) → Q (record { hall = h; answer = a })) → (judge h.log.records s ≡ fresh → Q (turn h s d fresh)) → Q (turn h s d (judge h.log.records s))
turn_elim Q h s d stays new = go (judge h.log.records s) refl
  where
    go : (v : Judgement) → judge h.log.records s ≡ v → Q (turn h s d v)
    go (known a) e = stays a
    go clash e = stays (refused 7)
    go full e = stays (refused 8)
    go fresh e = new e

-- a note whose number stands for an answer
pub record Readable (r : KeyRecord) : Type 0 where
  pub answer : Outcome (Unit {0})
  pub reads : answer_in r.content.kind r.answer ≡ Some answer

-- ---- what the key book says, read back

-- new: the key has no note, and there is room for one
pub record New (rs : List KeyRecord) (k : ℕ) : Type 0 where
  pub unnoted : look_up k rs ≡ None
  pub room : length rs < 1024

-- what is told to be new is new
pub judge_fresh : (rs : List KeyRecord) (s : Signature) → judge rs s ≡ fresh → New rs s.key
unfolding judge
judge_fresh rs s e = go (look_up s.key rs) refl e
  where
    known_not : (o : Option (Outcome (Unit {0}))) → known_or o ≡ fresh → New rs s.key
    known_not None e = never cc
    known_not (Some a) e = never cc

    go : (f : Option KeyRecord) → look_up s.key rs ≡ f → judge_by (length rs) s f ≡ fresh → New rs s.key
    go None p e = cases (ltb (length rs) 1024) (λ l. record { unnoted = p; room = ltb-true _ _ l }) (λ l. never (let z : full ≡ fresh = rw l at e in cc))
    go (Some n) p e =
        cases (same n.content s.content) (λ a. known_not (answer_in n.content.kind n.answer) (rw a at e))
        (λ a. never (let z : clash ≡ fresh = rw a at e in cc))

-- known: the key has a note that stands for the call, and its number stands for the answer
pub record Old (rs : List KeyRecord) (s : Signature) (a : Outcome (Unit {0})) : Type 0 where
  pub note : KeyRecord
  pub found : look_up s.key rs ≡ Some note
  pub alike : same note.content s.content ≡ true
  pub reads : answer_in note.content.kind note.answer ≡ Some a

-- what is told to be known is noted
pub judge_old : (rs : List KeyRecord) (s : Signature) (a : Outcome (Unit {0})) → judge rs s ≡ known a → Old rs s a
unfolding judge
judge_old rs s a e = go (look_up s.key rs) refl e
  where
    read : (n : KeyRecord) → look_up s.key rs ≡ Some n → same n.content s.content ≡ true → (o : Option (Outcome (Unit {0}))) → answer_in n.content.kind n.answer ≡ o → known_or o ≡ known a → Old rs s a
    read n p l None q e = never cc
    read n p l (Some b) q e = let z : b ≡ a = cc in record { note = n; found = p; alike = l; reads = q ∙ ap Some z }

    go : (f : Option KeyRecord) → look_up s.key rs ≡ f → judge_by (length rs) s f ≡ known a → Old rs s a
    go None p e =
        cases (ltb (length rs) 1024) (λ l. never (let z : fresh ≡ known a = rw l at e in cc)) (λ l. never (let z : full ≡ known a = rw l at e in cc))
    go (Some n) p e =
        cases (same n.content s.content)
        (λ q. read n p q (answer_in n.content.kind n.answer) refl (rw q at e))
        (λ q. never (let z : clash ≡ known a = rw q at e in cc))

-- a note that can be read tells its answer to a call for which it stands, and clashes with any other
pub judge_noted : (rs : List KeyRecord) (s : Signature) (n : KeyRecord) (a : Outcome (Unit {0})) → look_up s.key rs ≡ Some n → answer_in n.content.kind n.answer ≡ Some a → judge rs s ≡ cond (same n.content s.content) (known a) clash
unfolding judge
judge_noted rs s n a e r = rw (e, r)

-- ---- the book and the originals so far

-- whose note it is
abbrev pub signature_of : KeyRecord → Signature
signature_of r = record { key = r.key; content = r.content }

-- whose notes they are
abbrev pub signatures : List KeyRecord → List Signature
signatures = map signature_of

-- whose note it is, if there is one
abbrev signature_in : Option KeyRecord → Option Signature
signature_in None = None
signature_in (Some r) = Some (signature_of r)

-- what a call is by what the book says to it
abbrev pub to_mark : Judgement → Mark
to_mark (known a) = resend
to_mark clash = other
to_mark full = other
to_mark fresh = original

-- the original of a key is the one whose note it is
origin_noted : (k : ℕ) (rs : List KeyRecord) → seek (λ t. eqb t.key k) Some None (signatures rs) ≡ signature_in (look_up k rs)
unfolding seek
origin_noted k [] = refl
origin_noted k (r ∷ rs) = cases (eqb r.key k) (λ t. rw t) (λ f. rw f (origin_noted k rs))

-- where every note can be read, a call is what the book says of it
pub mark_judge : (rs : List KeyRecord) (s : Signature) → All Readable rs → mark_of (signatures rs) s ≡ to_mark (judge rs s)
unfolding mark_of judge
mark_judge rs s a = rw (origin_noted s.key rs, length-map rs signature_of) (go (look_up s.key rs) refl)
  where
    go : (f : Option KeyRecord) → look_up s.key rs ≡ f → mark_by (length rs) s (signature_in f) ≡ to_mark (judge_by (length rs) s f)
    go None p = cases (ltb (length rs) 1024) (λ t. rw t) (λ f. rw f)
    go (Some n) p =
        let r : Readable n = found_all (λ n. n.key) Readable s.key n rs a p in
        cases (same n.content s.content) (λ t. rw (t, r.reads)) (λ f. rw f)
