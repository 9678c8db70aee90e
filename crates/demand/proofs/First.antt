-- The originals are the first calls of the first 1,024 different keys.
use Prim.Native.Nat.{ℕ, ◌≤◌, ◌<◌}
use mathlib.Core.Path.{◌≡◌, refl, sym, ap, ◌∙◌}
use mathlib.Core.Bool.{Bool, true, false, cond, ◌||◌, or-false}
use mathlib.Core.Logic.{◌↔◌}
use mathlib.Core.List.{List, [], ◌∷◌, ◌++◌, map, map-append}
use Rattle.std.specs.Prelude.{Option, None, Some}
use native.Mathlib.Omega.{arith}
use borrow.Author.Tests.{ltb-true, ltb-false, lt-ltb, eqb-true}
use lib.Dec.{eqb, ltb}
use lib.ListN.{length, take, drop, length-append, length-map, length-take, take-append-drop}
use lib.Seq.{take_all, take-append-le}
use Rattle.base.specs.Lists.{seek, member}
use Rattle.std.specs.Prelude.{is_some}
use Rattle.base.proofs.Cases.{cases, never}
use Rattle.base.proofs.Loops.{any_append}
use Rattle.hall.specs.Hall.{Deed, Signature, same, content_of, signed}
use Rattle.demand.specs.Calls.{Call, keyed, round, no_kind, original, resend, other, mark_by, mark_of, grow_by, mark, grow, originals, keys_of, different}
use Rattle.demand.specs.Demand.{First}

-- the keys of originals
abbrev keys_in : List Signature → List ℕ
keys_in = map (λ s. s.key)

-- the original of a key
abbrev origin_of : ℕ → List Signature → Option Signature
origin_of k = seek (λ t. eqb t.key k) Some None

-- a key has an original exactly where it is one of their keys
origin_member : (k : ℕ) (o : List Signature) → is_some (origin_of k o) ≡ member k (keys_in o)
unfolding seek
origin_member k [] = refl
origin_member k (s ∷ o) = cases (eqb s.key k) (λ t. rw t) (λ f. rw f (origin_member k o))

-- who is among the first n is among all
member_take : (k n : ℕ) (xs : List ℕ) → member k (take n xs) ≡ true → member k xs ≡ true
member_take k n xs e = ap (member k) (sym (take-append-drop n xs)) ∙ any_append (λ x. eqb x k) (take n xs) (drop n xs) ∙ rw e

-- a list of which fewer than n can be taken has fewer than n
short : (s : List ℕ) (n : ℕ) → length (take n s) < n → length s < n
short s n h = omega (arith, length-take n s)

-- ---- one call: the originals have the first 1,024 of the different keys

module _ (o : List Signature) (s : List ℕ) (e : keys_in o ≡ take 1024 s) where
  -- as many keys as originals
  as_many : length (keys_in o) ≡ length o
  as_many = length-map o (λ (t : Signature). t.key)

  -- below 1,024 they are all the different keys
  whole : length o < 1024 → keys_in o ≡ s
  whole h = e ∙ take_all 1024 s (omega (arith, short s 1024 (omega (arith, as_many, ap length e))))

  -- from 1,024 on there are as many different keys, or more
  long : 1024 ≤ length o → 1024 ≤ length s
  long h = omega (arith, as_many, ap length e, length-take 1024 s)

  -- one call more, and they still are the first 1,024 of the different keys
  grow_take : (k : ℕ) (d : Deed) → keys_in (grow_by o (signed k d) (mark_of o (signed k d))) ≡ take 1024 (cond (member k s) s (s ++ (k ∷ [])))
  unfolding mark_of
  grow_take k d = go (origin_of k o) (ltb (length o) 1024) (member k s) refl refl refl
    where
      has : (f : Option Signature) → origin_of k o ≡ f → member k (keys_in o) ≡ is_some f
      has f p = sym (origin_member k o) ∙ ap is_some p

      stays : (b : Bool) → grow_by o (signed k d) (cond b resend other) ≡ o
      stays true = refl
      stays false = refl

      go : (f : Option Signature) (t m : Bool) → origin_of k o ≡ f → ltb (length o) 1024 ≡ t → member k s ≡ m →
          keys_in (grow_by o (signed k d) (mark_by (length o) (signed k d) f)) ≡ take 1024 (cond m s (s ++ (k ∷ [])))
      go None true true p q r =
          let w : keys_in o ≡ s = whole (ltb-true _ _ q) in
          let z : true ≡ false = sym r ∙ ap (member k) (sym w) ∙ has None p in
          never cc
      go None true false p q r =
          let w : keys_in o ≡ s = whole (ltb-true _ _ q) in
          let l : length o < 1024 = ltb-true _ _ q in
          rw (q, map-append, w) (sym (take_all 1024 (s ++ (k ∷ [])) (rw length-append (omega (arith, as_many, ap length w)))))
      go None false true p q r = rw q e
      go None false false p q r = rw q (e ∙ sym (take-append-le 1024 s (k ∷ []) (long (ltb-false _ _ q))))
      go (Some u) t true p q r = rw (stays (same u.content (content_of d))) e
      go (Some u) t false p q r =
          let z : true ≡ false = sym (member_take k 1024 s (ap (member k) (sym e) ∙ has (Some u) p)) ∙ r in
          never cc

-- so after any calls the originals' keys are the first 1,024 of the different keys
originals_take : (o : List Signature) (s : List ℕ) (cs : List Call) → keys_in o ≡ take 1024 s → keys_in (originals o cs) ≡ take 1024 (different s (keys_of cs))
unfolding different
originals_take o s [] e = e
originals_take o s (keyed k d ∷ cs) e = originals_take (grow o (keyed k d)) _ cs (grow_take o s e k d)
originals_take o s (round c ∷ cs) e = originals_take o s cs e
originals_take o s (no_kind g x ∷ cs) e = originals_take o s cs e

-- ---- the different keys are those seen and those of the list

-- who is among the different keys was seen, or is in the list
different_member : (k : ℕ) (s ks : List ℕ) → member k (different s ks) ≡ (member k s || member k ks)
unfolding different seek
different_member k s [] = sym (or-false (member k s))
different_member k s (x ∷ ks) = different_member k (cond (member x s) s (s ++ (x ∷ []))) ks ∙ go (member x s) (eqb x k) refl refl (member k s) refl
  where
    alg : (a t m : Bool) → ((a || cond t true false) || m) ≡ (a || cond t true m)
    alg true t m = refl
    alg false true m = refl
    alg false false m = refl

    go : (b t : Bool) → member x s ≡ b → eqb x k ≡ t → (a : Bool) → member k s ≡ a →
        (member k (cond b s (s ++ (x ∷ []))) || member k ks) ≡ (member k s || cond t true (member k ks))
    go true t p q true r = rw r
    go true true p q false r =
        let u : x ≡ k = eqb-true x k q in
        let z : true ≡ false = sym p ∙ ap (λ (n : ℕ). member n s) u ∙ r in
        never cc
    go true false p q false r = refl
    go false t p q a r = rw (any_append (λ y. eqb y k) s (x ∷ []), q) (alg (member k s) t (member k ks))

-- ---- the mark `original`, read back

-- the key has no original yet, and there is room for one
record Fresh (o : List Signature) (k : ℕ) : Type 0 where
  unfound : origin_of k o ≡ None
  room : length o < 1024

-- an original's key had none
mark_none : (o : List Signature) (s : Signature) → mark_of o s ≡ original → Fresh o s.key
unfolding mark_of
mark_none o s e = go (origin_of s.key o) (ltb (length o) 1024) refl refl e
  where
    go : (f : Option Signature) (t : Bool) → origin_of s.key o ≡ f → ltb (length o) 1024 ≡ t → mark_by (length o) s f ≡ original → Fresh o s.key
    go None true p q e = record { unfound = p; room = ltb-true _ _ q }
    go None false p q e = never (let z : other ≡ original = rw q at e in cc)
    go (Some u) t p q e =
        cases (same u.content s.content) (λ a. never (let z : resend ≡ original = rw a at e in cc))
        (λ a. never (let z : other ≡ original = rw a at e in cc))

-- where there is none it is none
is_none : (f : Option Signature) → is_some f ≡ false → f ≡ None
is_none None e = refl
is_none (Some s) e = never cc

-- a key that has none makes an original
none_mark : (o : List Signature) (s : Signature) → origin_of s.key o ≡ None → length o < 1024 → mark_of o s ≡ original
unfolding mark_of
none_mark o s e h = rw (e, lt-ltb (length o) 1024 h)

-- a call is marked an original exactly where it is the first with its key, one of the first 1,024 different ones
pub first_iff : (pre : List Call) (k : ℕ) (d : Deed) → (mark (originals [] pre) (keyed k d) ≡ original) ↔ First pre k
unfolding seek
first_iff pre k d = (to, from)
  where
    o : List Signature
    o = originals [] pre

    s : List ℕ
    s = different [] (keys_of pre)

    e : keys_in o ≡ take 1024 s
    e = originals_take [] [] pre refl

    seen : member k s ≡ member k (keys_of pre)
    seen = different_member k [] (keys_of pre)

    to : mark o (keyed k d) ≡ original → First pre k
    to m =
        let n : Fresh o k = mark_none o (signed k d) m in
        let w : keys_in o ≡ s = whole o s e n.room in
        record {
          new = sym seen ∙ ap (member k) (sym w) ∙ sym (origin_member k o) ∙ ap is_some n.unfound;
          early = omega (arith, as_many o s e, ap length w, n.room);
        }

    from : First pre k → mark o (keyed k d) ≡ original
    from f =
        let w : keys_in o ≡ s = e ∙ take_all 1024 s (omega (arith, f.early)) in
        none_mark o (signed k d) (is_none (origin_of k o) (origin_member k o ∙ ap (member k) w ∙ seen ∙ f.new)) (omega (arith, as_many o s e, ap length w, f.early))
