-- The table of rows by their ids: who is in no bucket has no row, a walk from a bucket down misses nobody, and a row more.
use Prim.Native.Nat.{ℕ, zero, suc, ◌+◌, ◌≤◌, ◌<◌}
use mathlib.Core.Path.{◌≡◌, refl, sym, ap, ◌∙◌}
use mathlib.Core.Bool.{Bool, true, false}
use mathlib.Core.List.{List, [], ◌∷◌, ◌++◌}
use native.Mathlib.Numerals.{add-one}
use native.Mathlib.Nat.{not-suc-le-zero}
use native.Mathlib.Omega.{arith}
use borrow.Author.Tests.{eqb-true, eqb-false, eq-eqb, ne_eqb}
use lib.Dec.{eqb}
use lib.ListN.{length, take, get_or, set, replicate, length-set, length-replicate, get_or-replicate}
use lib.Seq.{get_or-set_same, get_or-set_other, get_or-take, length-take-le, take-suc, take_all}
use Rattle.base.specs.Lists.{seek, place, member, distinct}
use Rattle.base.proofs.Cases.{cases, never}
use Rattle.base.proofs.Members.{absent_append, absent_head, absent_tail, absent_cons, Distinct-of, distinct_of, distinct_snoc}
use Rattle.roster.specs.Roster.{row_of}
use Rattle.roster.specs.Steps.{bucket_of, last_row, last_of, last_in, Chained, Noted}
use Rattle.roster.proofs.Laws.{only_row}

-- ---- the last row that a test holds of

module _ (ids : List ℕ) (p : ℕ → Bool) where
  -- it is one of the first n
  pub last_fits : (n : ℕ) → last_row p ids n ≤ n
  unfolding last_row
  last_fits zero = omega arith
  last_fits (suc n) = let i : last_row p ids n ≤ n = last_fits n in cases (p (get_or ids n 0)) (λ t. rw t (omega arith)) (λ f. rw f (omega arith))

  -- the test holds of it
  pub last_holds : (n : ℕ) {row : ℕ} → last_row p ids n ≡ suc row → p (get_or ids row 0) ≡ true
  unfolding last_row
  last_holds zero e = absurd (omega arith)
  last_holds (suc n) {row} e =
      cases (p (get_or ids n 0))
      (λ t. let s : suc n ≡ suc row = rw t at e in let r : row ≡ n = omega arith in rw r t)
      (λ f. last_holds n (rw f at e))

  -- whom a weaker test leaves out the test leaves out: the last row is the last up to the weaker test's last
  pub last_below : (q : ℕ → Bool) → ((x : ℕ) → p x ≡ true → q x ≡ true) → (n : ℕ) → last_row p ids n ≡ last_row p ids (last_row q ids n)
  unfolding last_row
  last_below q w zero = refl
  last_below q w (suc n) =
      cases (q (get_or ids n 0)) (λ t. rw t)
      (λ f.
      cases (p (get_or ids n 0)) (λ t. never (let z : true ≡ false = sym (w (get_or ids n 0) t) ∙ f in cc))
      (λ g. rw (f, g) (last_below q w n)))

-- who has a row falls into that row's bucket
same_bucket : (id x : ℕ) → eqb x id ≡ true → eqb (bucket_of x) (bucket_of id) ≡ true
same_bucket id x e = eq-eqb (bucket_of x) (bucket_of id) (ap bucket_of (eqb-true x id e))

module _ (ids : List ℕ) (id : ℕ) where
  -- the last row that has the id is the last up to the last of its bucket
  pub last_in_bucket : (n : ℕ) → last_of id ids n ≡ last_of id ids (last_in (bucket_of id) ids n)
  last_in_bucket = last_below ids (λ x. eqb x id) (λ x. eqb (bucket_of x) (bucket_of id)) (same_bucket id)

  -- the last of a bucket is the last up to itself
  pub bucket_again : (n : ℕ) → last_in (bucket_of id) ids n ≡ last_in (bucket_of id) ids (last_in (bucket_of id) ids n)
  bucket_again = last_below ids (λ x. eqb (bucket_of x) (bucket_of id)) (λ x. eqb (bucket_of x) (bucket_of id)) (λ x e. e)

  -- an empty bucket: nobody has the id
  pub empty_bucket : (n : ℕ) → last_in (bucket_of id) ids n ≡ 0 → last_of id ids n ≡ 0
  unfolding last_row
  empty_bucket n e = last_in_bucket n ∙ ap (last_of id ids) e

-- ---- down from the last row of a bucket

module _ (ids before : List ℕ) (id from k row : ℕ) (inv : last_of id ids from ≡ last_of id ids k) where
  -- this row has the id
  pub walk_hit : k ≡ row + 1 → get_or ids row 0 ≡ id → k ≡ last_of id ids from
  unfolding last_row
  walk_hit e h = rw (inv, e, add-one row, eq-eqb (get_or ids row 0) id h)

  -- it has not: on to the row before it in the bucket
  pub walk_on : k ≡ row + 1 → k ≡ last_in (bucket_of id) ids k → (get_or ids row 0 ≡ id → ⊥) → {next : ℕ} → next ≡ get_or before row 0 → get_or before row 0 ≡ last_in (bucket_of (get_or ids row 0)) ids row →
      (next ≤ row) × (last_of id ids from ≡ last_of id ids next) × (next ≡ last_in (bucket_of id) ids next)
  unfolding last_row
  walk_on e b h n c =
      let s : k ≡ suc row = e ∙ add-one row in
      let t : eqb (bucket_of (get_or ids row 0)) (bucket_of id) ≡ true = last_holds ids (λ x. eqb (bucket_of x) (bucket_of id)) k (sym b ∙ s) in
      let o = n ∙ c ∙ ap (λ (m : ℕ). last_in m ids row) (eqb-true (bucket_of (get_or ids row 0)) (bucket_of id) t) in
      let past : last_of id ids k ≡ last_of id ids row = rw (s, ne_eqb (get_or ids row 0) id h) in (
        rw o (last_fits ids (λ x. eqb (bucket_of x) (bucket_of id)) row),
        inv ∙ past ∙ rw o (last_in_bucket ids id row),
        rw o (bucket_again ids id row),
      )

  -- no row is left
  pub walk_end : k ≡ 0 → 0 ≡ last_of id ids from
  unfolding last_row
  walk_end e = sym (inv ∙ ap (last_of id ids) e)

-- a walk from the last of the id's bucket among the first n rows
module _ (ids before : List ℕ) (id n : ℕ) {from : ℕ} (e : from ≡ last_in (bucket_of id) ids n) where
  -- what it asks
  pub walk_asks : n ≤ length ids → length ids ≤ 128 → length before ≡ 128 → Chained ids n before → ((from ≤ length ids) × (length ids ≤ 128)) × (((length before ≡ 128) × Chained ids from before) × (from ≡ last_in (bucket_of id) ids from))
  walk_asks h k l c =
      let f : from ≤ n = rw e (last_fits ids (λ x. eqb (bucket_of x) (bucket_of id)) n) in
      ((omega arith, k), ((l, λ row r. c row (omega arith)), rw e (bucket_again ids id n)))

-- the same of a table of these rows and maybe more
pub walk_noted : (ids : List ℕ) (id n : ℕ) {m from : ℕ} {last before : List ℕ} → Noted ids m last before → n ≤ m → from ≡ last_in (bucket_of id) ids n → n ≤ length ids → length ids ≤ 128 → ((from ≤ length ids) × (length ids ≤ 128)) × (((length before ≡ 128) × Chained ids from before) × (from ≡ last_in (bucket_of id) ids from))
walk_noted ids id n {before = before} t l e h k = walk_asks ids before id n e h k t.rows (λ row r. t.chained row (omega arith))

-- what it finds
pub walk_finds : (ids : List ℕ) (id n : ℕ) {from k : ℕ} → from ≡ last_in (bucket_of id) ids n → k ≡ last_of id ids from → k ≡ last_of id ids n
walk_finds ids id n e r = r ∙ rw e (sym (last_in_bucket ids id n))

-- ---- a row more

-- the table of no rows
pub none_noted : (ids : List ℕ) → Noted ids 0 (replicate 1024 0) (replicate 128 0)
unfolding last_row
none_noted ids =
    record {
      buckets = length-replicate {A = ℕ} 1024 0;
      rows = length-replicate {A = ℕ} 128 0;
      lasts = λ b h. get_or-replicate {A = ℕ} 1024 b 0 0 h;
      chained = λ row h. absurd (not-suc-le-zero h);
    }

module _ (ids last before : List ℕ) (n : ℕ) (noted : Noted ids n last before) where
  pub row_noted : n < 128 → {b earlier : ℕ} → b ≡ bucket_of (get_or ids n 0) → b < 1024 → earlier ≡ get_or last b 0 → Noted ids (n + 1) (set last b (n + 1)) (set before n earlier)
  unfolding last_row
  row_noted room {b} {earlier} e h l =
      record {
        buckets = length-set last b (n + 1) ∙ noted.buckets;
        rows = length-set before n earlier ∙ noted.rows;
        lasts = λ x k.
            cases (eqb b x)
            (λ t.
            let z : b ≡ x = eqb-true b x t in
            rw (← z, get_or-set_same last b (n + 1) 0 (omega (arith, noted.buckets)), add-one n, eq-eqb (bucket_of (get_or ids n 0)) b (sym e)))
            (λ f.
            rw (get_or-set_other last b x (n + 1) 0 (λ z. never (let y : true ≡ false = sym (eq-eqb b x (sym z)) ∙ f in cc)), add-one n, ← e, f) (noted.lasts x k));
        chained = λ row k.
            cases (eqb row n)
            (λ t.
            let z : row ≡ n = eqb-true row n t in
            rw (z, get_or-set_same before n earlier 0 (omega (arith, noted.rows))) (l ∙ noted.lasts b h ∙ ap (λ (x : ℕ). last_in x ids n) e))
            (λ f.
            let z : row ≡ n → ⊥ = λ z. never (let y : true ≡ false = sym (eq-eqb row n z) ∙ f in cc) in
            rw (get_or-set_other before n row earlier 0 z) (noted.chained row (let y = eqb-false row n f in omega arith)));
      }

  -- what stood in its bucket
  pub earlier_last : {b earlier : ℕ} → b ≡ bucket_of (get_or ids n 0) → b < 1024 → earlier ≡ get_or last b 0 → (earlier ≡ last_in (bucket_of (get_or ids n 0)) ids n) × (earlier ≤ n)
  earlier_last e h l =
      let z = l ∙ noted.lasts _ h ∙ ap (λ (x : ℕ). last_in x ids n) e in
      (z, rw z (last_fits ids (λ x. eqb (bucket_of x) (bucket_of (get_or ids n 0))) n))

-- ---- the ids above a row differ

-- who is in no row is not among them
pub no_row_absent : (ids : List ℕ) (id n : ℕ) → n ≤ length ids → last_of id ids n ≡ 0 → member id (take n ids) ≡ false
unfolding last_row seek
no_row_absent ids id zero h e = refl
no_row_absent ids id (suc n) h e =
    cases (eqb (get_or ids n 0) id) (λ t. absurd (let z : suc n ≡ 0 = rw t at e in omega arith))
    (λ f.
    rw (take-suc ids n 0 h)
    (absent_append id (take n ids) (get_or ids n 0 ∷ []) (no_row_absent ids id n (omega arith) (rw f at e)) (rw f)))

module _ (ids : List ℕ) (n : ℕ) where
  -- one more who is in no row above
  pub differ_on : n < length ids → distinct (take n ids) ≡ true → last_of (get_or ids n 0) ids n ≡ 0 → distinct (take (n + 1) ids) ≡ true
  differ_on h d e =
      rw (add-one n, take-suc ids n 0 h)
      (distinct_of (take n ids ++ (get_or ids n 0 ∷ []))
      (distinct_snoc (take n ids) (get_or ids n 0) (Distinct-of (take n ids) d) (no_row_absent ids (get_or ids n 0) n (omega arith) e)))

  -- one who is
  pub differ_not : (to : ℕ) → n < to → to ≤ length ids → 0 < last_of (get_or ids n 0) ids n → distinct (take to ids) ≡ false
  differ_not to h k e = go (last_of (get_or ids n 0) ids n) refl e
    where
      go : (m : ℕ) → last_of (get_or ids n 0) ids n ≡ m → 0 < m → distinct (take to ids) ≡ false
      go zero s z = absurd (not-suc-le-zero z)
      go (suc row) s z =
          let t : get_or ids row 0 ≡ get_or ids n 0 = eqb-true (get_or ids row 0) (get_or ids n 0) (last_holds ids (λ x. eqb x (get_or ids n 0)) n s) in
          let b : suc row ≤ n = rw s at (last_fits ids (λ x. eqb x (get_or ids n 0)) n) in
          let l : length (take to ids) ≡ to = length-take-le to ids k in
          cases (distinct (take to ids))
          (λ d.
          let one = only_row (get_or ids n 0) (take to ids) row d (omega arith) (get_or-take to ids row 0 (omega arith) ∙ t) in
          let two = only_row (get_or ids n 0) (take to ids) n d (omega arith) (get_or-take to ids n 0 h) in
          absurd (omega arith))
          (λ f. f)

-- four more, each into an empty bucket
pub differ_four : (ids : List ℕ) (n : ℕ) → n + 3 < length ids → distinct (take n ids) ≡ true →
    last_in (bucket_of (get_or ids n 0)) ids n ≡ 0 → last_in (bucket_of (get_or ids (n + 1) 0)) ids (n + 1) ≡ 0 →
    last_in (bucket_of (get_or ids (n + 1 + 1) 0)) ids (n + 1 + 1) ≡ 0 → last_in (bucket_of (get_or ids (n + 1 + 1 + 1) 0)) ids (n + 1 + 1 + 1) ≡ 0 →
    distinct (take (n + 1 + 1 + 1 + 1) ids) ≡ true
differ_four ids n h d e1 e2 e3 e4 =
    let d1 = differ_on ids n (omega arith) d (empty_bucket ids (get_or ids n 0) n e1) in
    let d2 = differ_on ids (n + 1) (omega arith) d1 (empty_bucket ids (get_or ids (n + 1) 0) (n + 1) e2) in
    let d3 = differ_on ids (n + 1 + 1) (omega arith) d2 (empty_bucket ids (get_or ids (n + 1 + 1) 0) (n + 1 + 1) e3) in
    differ_on ids (n + 1 + 1 + 1) (omega arith) d3 (empty_bucket ids (get_or ids (n + 1 + 1 + 1) 0) (n + 1 + 1 + 1) e4)

absent_take : (x : ℕ) (xs : List ℕ) (n : ℕ) → member x xs ≡ false → member x (take n xs) ≡ false
unfolding seek
absent_take x xs zero h = refl
absent_take x [] (suc n) h = refl
absent_take x (y ∷ xs) (suc n) h = absent_cons x y (take n xs) (absent_head x y xs h) (absent_take x xs n (absent_tail x y xs h))

differ_front : (xs : List ℕ) (n : ℕ) → distinct xs ≡ true → distinct (take n xs) ≡ true
unfolding distinct
differ_front xs zero d = refl
differ_front [] (suc n) d = refl
differ_front (x ∷ xs) (suc n) d =
    cases (member x xs) (λ t. never (let z : false ≡ true = rw t at d in cc))
    (λ f. rw (absent_take x xs n f) (differ_front xs n (rw f at d)))

-- where the first n do not differ, all do not
pub differ_no_more : (xs : List ℕ) (n : ℕ) → distinct (take n xs) ≡ false → false ≡ distinct xs
differ_no_more xs n f = cases (distinct xs) (λ d. never (let z : true ≡ false = sym (differ_front xs n d) ∙ f in cc)) (λ g. sym g)

-- where all of them do, all do
pub differ_all : (xs : List ℕ) (n : ℕ) → length xs ≤ n → distinct (take n xs) ≡ true → true ≡ distinct xs
differ_all xs n h d = sym d ∙ ap distinct (take_all n xs h)

-- ---- the row of a player where nobody has two rows

no_row : (p : ℕ) (ids : List ℕ) → member p ids ≡ false → length ids ≡ row_of p ids
unfolding seek place
no_row p [] h = refl
no_row p (id ∷ ids) h = rw (absent_head p id ids h) (ap suc (no_row p ids (absent_tail p id ids h)))

module _ (p : ℕ) (ids : List ℕ) where
  -- no row has the player
  pub row_none : last_of p ids (length ids) ≡ 0 → length ids ≡ row_of p ids
  row_none e = no_row p ids (ap (member p) (sym (take_all (length ids) ids (omega arith))) ∙ no_row_absent ids p (length ids) (omega arith) e)

  -- this row has
  pub row_some : distinct ids ≡ true → {row : ℕ} → last_of p ids (length ids) ≡ row + 1 → row ≡ row_of p ids
  row_some d {row} e =
      let b = last_fits ids (λ x. eqb x p) (length ids) in
      only_row p ids row d (omega arith) (eqb-true (get_or ids row 0) p (last_holds ids (λ x. eqb x p) (length ids) (e ∙ add-one row)))
