-- Laws of the key book over plain lists: what stands in its column and its notes, and what a note says to a call.
use Prim.Native.Nat.{ℕ, suc, ◌+◌, ◌≤◌, ◌<◌}
use mathlib.Core.Path.{◌≡◌, refl, sym, ap, ◌∙◌}
use mathlib.Core.Bool.{true, false}
use mathlib.Core.List.{List, [], ◌∷◌, ◌++◌}
use Rattle.std.specs.Prelude.{None, Some}
use native.Mathlib.Omega.{arith}
use native.Mathlib.Nat.{le_of_suc-le-suc, not-suc-le-zero}
use lib.Dec.{eqb}
use lib.ListN.{length, take, get_or, set, length-set}
use lib.Seq.{length-take-le, get_or-take}
use Rattle.base.specs.Lists.{seek, place}
use Rattle.base.specs.Refusals.{Outcome, refused}
use Rattle.base.proofs.Cases.{cases}
use Rattle.base.proofs.Arrays.{push}
use Rattle.hall.specs.declared.Note.{Note}
use Rattle.hall.specs.Hall.{Content, same, KeyRecord, content_in, record_of, paired, log_with, logging, guest_alone, book, content_of, answer_in, look_up}
use Rattle.hall.specs.Steps.{heard_or, heard_from, note_with}

-- what is read past the end of an array of notes
abbrev pub no_note : Note
no_note = note_with (content_of (book (guest_alone 0))) 0

-- ---- the column of keys beside the notes

-- there are as many records as keys
pub paired_length : (ks : List ℕ) (ms : List Note) → length ks ≡ length ms → length (paired ks ms) ≡ length ks
unfolding paired
paired_length [] ms e = refl
paired_length (k ∷ ks) [] e = absurd (omega arith)
paired_length (k ∷ ks) (m ∷ ms) e =
    let i : length ks ≡ length ms = omega arith in
    ap suc (paired_length ks ms i)

-- there are no more than keys, however many notes there are
pub paired_fits : (ks : List ℕ) (ms : List Note) → length (paired ks ms) ≤ length ks
unfolding paired
paired_fits [] ms = omega arith
paired_fits (k ∷ ks) [] = omega arith
paired_fits (k ∷ ks) (m ∷ ms) = omega (arith, paired_fits ks ms)

-- a key and its note behind the others are one more record
pub paired_more : (ks : List ℕ) (ms : List Note) (k : ℕ) (m : Note) → length ks ≡ length ms → paired (ks ++ (k ∷ [])) (ms ++ (m ∷ [])) ≡ paired ks ms ++ (record_of k m ∷ [])
unfolding paired
paired_more [] [] k m e = refl
paired_more [] (x ∷ xs) k m e = absurd (omega arith)
paired_more (x ∷ xs) [] k m e = absurd (omega arith)
paired_more (x ∷ xs) (y ∷ ys) k m e =
    let i : length xs ≡ length ys = omega arith in
    ap (λ (r : List KeyRecord). record_of x y ∷ r) (paired_more xs ys k m i)

module _ (key : ℕ) where
  -- the key's record stands at the key's place in the column
  pub paired_at : (ks : List ℕ) (ms : List Note) → length ks ≡ length ms → place (λ x. eqb x key) ks < length ks → look_up key (paired ks ms) ≡ Some (record_of (get_or ks (place (λ x. eqb x key) ks) 0) (get_or ms (place (λ x. eqb x key) ks) no_note))
  unfolding paired seek place
  paired_at [] ms e h = absurd (not-suc-le-zero h)
  paired_at (k ∷ ks) [] e h = absurd (omega arith)
  paired_at (k ∷ ks) (m ∷ ms) e h =
      let i : length ks ≡ length ms = omega arith in
      cases (eqb k key) (λ t. rw t) (λ f. rw f (paired_at ks ms i (le_of_suc-le-suc (rw f at h))))

  -- a key that is not in the column has no record
  pub paired_none : (ks : List ℕ) (ms : List Note) → length ks ≤ place (λ x. eqb x key) ks → look_up key (paired ks ms) ≡ None
  unfolding paired seek place
  paired_none [] ms h = refl
  paired_none (k ∷ ks) [] h = refl
  paired_none (k ∷ ks) (m ∷ ms) h =
      cases (eqb k key) (λ t. absurd (not-suc-le-zero (rw t at h))) (λ f. rw f (paired_none ks ms (le_of_suc-le-suc (rw f at h))))

-- ---- the first n of a column of 1,024 and of its notes

module _ (ks : List ℕ) (ms : List Note) (n key at : ℕ) (long : length ks ≡ 1024) (wide : length ms ≡ 1024) (fits : n ≤ 1024) (found : at ≡ place (λ x. eqb x key) (take n ks)) where
  -- they are n
  keys_held : length (take n ks) ≡ n
  keys_held = length-take-le n ks (omega arith)

  notes_held : length (take n ms) ≡ n
  notes_held = length-take-le n ms (omega arith)

  as_many : length (take n ks) ≡ length (take n ms)
  as_many = keys_held ∙ sym notes_held

  pub records_held : length (log_with n ks ms).records ≡ n
  records_held = paired_length (take n ks) (take n ms) as_many ∙ keys_held

  -- the note at the key's place is the key's
  pub noted_there : at < n → (r : KeyRecord) × ((look_up key (log_with n ks ms).records ≡ Some r) × ((r.content ≡ (record_of 0 (get_or ms at no_note)).content) × (r.answer ≡ (get_or ms at no_note).answer)))
  noted_there h =
      let there : place (λ x. eqb x key) (take n ks) < length (take n ks) = omega (arith, keys_held) in
      let m : get_or (take n ms) (place (λ x. eqb x key) (take n ks)) no_note ≡ get_or ms at no_note = ap (λ (i : ℕ). get_or (take n ms) i no_note) (sym found) ∙ get_or-take n ms at no_note h in
      (record_of (get_or (take n ks) (place (λ x. eqb x key) (take n ks)) 0) (get_or (take n ms) (place (λ x. eqb x key) (take n ks)) no_note), (paired_at key (take n ks) (take n ms) as_many there, (ap (λ (x : Note). (record_of 0 x).content) m, ap (λ (x : Note). x.answer) m)))

  -- a place past the end: the key has no note
  pub noted_nowhere : n ≤ at → look_up key (log_with n ks ms).records ≡ None
  noted_nowhere h = paired_none key (take n ks) (take n ms) (omega (arith, keys_held))

  -- a key and its note stored behind the others
  pub logged : n < 1024 → (m : Note) → log_with (n + 1) (set ks n key) (set ms n m) ≡ logging ((log_with n ks ms).records ++ (record_of key m ∷ []))
  logged h m =
      let wider : n + 1 ≤ length (set ks n key) = simp length-set (omega arith) in
      let longer : n + 1 ≤ length (set ms n m) = simp length-set (omega arith) in
      let l : length (take (n + 1) (set ks n key)) ≡ n + 1 = length-take-le (n + 1) (set ks n key) wider in
      let o : length (take (n + 1) (set ms n m)) ≡ n + 1 = length-take-le (n + 1) (set ms n m) longer in
      let e : paired (take (n + 1) (set ks n key)) (take (n + 1) (set ms n m)) ≡ paired (take n ks) (take n ms) ++ (record_of key m ∷ []) =
      rw (push ks n key (omega arith), push ms n m (omega arith)) (paired_more (take n ks) (take n ms) key m as_many) in
      let z : n + 1 ≡ length (paired (take n ks) (take n ms) ++ (record_of key m ∷ [])) =
      sym (paired_length (take (n + 1) (set ks n key)) (take (n + 1) (set ms n m)) (l ∙ sym o) ∙ l) ∙ ap length e in
      λ j. record { size = z j; records = e j }

-- ---- what a note says to a call with its key

module _ (m : Note) (c : Content) where
  -- the key stands for another call
  pub heard_clash : same (content_in m) c ≡ false → refused 7 ≡ heard_from m c
  heard_clash e = rw e

  -- it stands for this one: the answer that was noted
  pub heard_known : same (content_in m) c ≡ true → {o : Outcome (Unit {0})} → o ≡ heard_or (answer_in m.kind m.answer) → o ≡ heard_from m c
  heard_known e h = rw e h
