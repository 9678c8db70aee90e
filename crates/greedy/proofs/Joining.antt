-- A greedy pick is document 01's pick from the queue put in order of joining: those who joined at different times may be looked at in
-- either order, so a queue may be sorted by joined time, and then of equal distances the earlier place is the earlier joined time.
use Prim.Native.Nat.{ℕ, ◌≤◌, ◌<◌}
use mathlib.Core.Path.{◌≡◌, refl, sym, ap, ◌∙◌}
use mathlib.Core.Bool.{Bool, true, false, not, cond}
use mathlib.Core.List.{List, [], ◌∷◌, foldl}
use Rattle.std.specs.Prelude.{Option, None, Some}
use native.Mathlib.Omega.{arith}
use borrow.Author.Tests.{ltb-true, ltb-false, le-ltb}
use lib.Dec.{ltb}
use lib.Ieee.{Float, nan, inf}
use Rattle.base.specs.Lists.{All, keep}
use Rattle.base.specs.Ranking.{insert_by}
use Rattle.base.proofs.Cases.{cases, never}
use Rattle.base.proofs.Sorting.{Sorted, First, sorted_inserted, sort_sorts, all_sound, number_asym, number_onward}
use Rattle.ranking.specs.Times.{rising_from, never_fall}
use Rattle.queue.specs.declared.QueueEntry.{QueueEntry}
use Rattle.queue.specs.Queue.{is_of_any}
use Rattle.greedy.specs.Greedy.{distance, goes_before, closer, nearest}
use Rattle.greedy.specs.LongerWait.{by_joining, nearest_by_place}
use Rattle.greedy.proofs.Ties.{before_late, before_number, before_trans, before_one}
use Rattle.greedy.proofs.InOrder.{joined_by, in_order}
use Rattle.base.proofs.All.{all_so}

-- ---- two who joined at different times

module _ (reference : Float) where
  abbrev far : QueueEntry → Float
  far x = distance reference x.rating

  -- does x go before the nearest so far? With infinity and 0 where there is none nothing ties
  abbrev beats : QueueEntry → Option QueueEntry → Bool
  beats x None = goes_before (far x) x.joined (inf false) 0
  beats x (Some near) = goes_before (far x) x.joined (far near) near.joined

  -- one that does takes its place
  closer_takes : (o : Option QueueEntry) (x : QueueEntry) → beats x o ≡ true → closer reference o x ≡ Some x
  unfolding closer
  closer_takes None x h = rw (sym (before_late (far x) x.joined (inf false) 0 (omega arith)) ∙ h)
  closer_takes (Some near) x h = rw h

  -- one that doesn't leaves it there
  closer_stays : (o : Option QueueEntry) (x : QueueEntry) → beats x o ≡ false → closer reference o x ≡ o
  unfolding closer
  closer_stays None x h = rw (sym (before_late (far x) x.joined (inf false) 0 (omega arith)) ∙ h)
  closer_stays (Some near) x h = rw h

  -- who beats one that beats the nearest beats the nearest
  beats_on : (o : Option QueueEntry) (x y : QueueEntry) → beats y (Some x) ≡ true → beats x o ≡ true → beats y o ≡ true
  beats_on None x y h k = before_trans (far y) (far x) (inf false) y.joined x.joined 0 h k
  beats_on (Some near) x y h k = before_trans (far y) (far x) (far near) y.joined x.joined near.joined h k

  -- who beats anybody is at a distance that is a number
  beats_number : (o : Option QueueEntry) (x : QueueEntry) → beats x o ≡ true → far x ≡ nan → ⊥
  beats_number None x h = before_number (far x) x.joined (inf false) 0 h
  beats_number (Some near) x h = before_number (far x) x.joined (far near) near.joined h

  -- where x beats the nearest and y doesn't, y does not beat x
  beaten : (o : Option QueueEntry) (x y : QueueEntry) → beats x o ≡ true → beats y o ≡ false → beats y (Some x) ≡ false
  beaten o x y h k = cases (beats y (Some x)) (λ t. never (let e = beats_on o x y t h in cc)) (λ f. f)

  -- so they may come in either order
  closer_swap : (o : Option QueueEntry) (x y : QueueEntry) → (x.joined ≡ y.joined → ⊥) → closer reference (closer reference o x) y ≡ closer reference (closer reference o y) x
  closer_swap o x y d =
      cases (beats x o)
      (λ t.
      cases (beats y o)
      (λ u.
      let e = before_one (far x) (far y) x.joined y.joined (beats_number o x t) (beats_number o y u) d in
      rw (closer_takes o x t, closer_takes o y u)
      (cases (beats x (Some y))
      (λ g. rw (closer_takes (Some y) x g) (closer_stays (Some x) y (rw g at e)))
      (λ g. rw (closer_stays (Some y) x g) (closer_takes (Some x) y (rw g at e)))))
      (λ g. rw (closer_takes o x t, closer_stays o y g, closer_takes o x t) (closer_stays (Some x) y (beaten o x y t g))))
      (λ f.
      cases (beats y o)
      (λ u. rw (closer_stays o x f, closer_takes o y u) (sym (closer_stays (Some y) x (beaten o y x u f))))
      (λ g. rw (closer_stays o x f, closer_stays o y g) (sym (closer_stays o x f))))

-- ---- a queue is sorted

-- x joined before y
abbrev earlier : QueueEntry → QueueEntry → Bool
earlier x y = ltb x.joined y.joined

-- what comes behind one that joined later than x joined later than x
all_later : (x y : QueueEntry) (es : List QueueEntry) → x.joined < y.joined → First earlier y es → All (λ z. x.joined < z.joined) es
all_later x y es h a = all_so (λ z. earlier z y ≡ false) (λ z. x.joined < z.joined) (λ z f. let k = ltb-false z.joined y.joined f in omega arith) es a

module _ (reference : Float) (p : QueueEntry → Bool) where
  -- one more entry is looked at where p holds of it
  abbrev looked : Option QueueEntry → QueueEntry → Option QueueEntry
  looked o x = cond (p x) (closer reference o x) o

  -- that is a look at those whom p keeps
  looked_keep : (es : List QueueEntry) (o : Option QueueEntry) → foldl (closer reference) o (keep p es) ≡ foldl looked o es
  unfolding keep
  looked_keep [] o = refl
  looked_keep (e ∷ es) o = cases (p e) (λ t. rw t (looked_keep es (closer reference o e))) (λ f. rw f (looked_keep es o))

  -- two who joined at different times are looked at in either order
  looked_swap : (o : Option QueueEntry) (x y : QueueEntry) → (x.joined ≡ y.joined → ⊥) → looked (looked o x) y ≡ looked (looked o y) x
  looked_swap o x y d =
      cases (p x)
      (λ t. cases (p y) (λ u. rw (t, u) (closer_swap reference o x y d)) (λ g. rw (t, g)))
      (λ f. cases (p y) (λ u. rw (f, u)) (λ g. rw (f, g)))

  -- x may be looked at behind all who joined later
  looked_last : (x : QueueEntry) (es : List QueueEntry) (o : Option QueueEntry) → All (λ z. x.joined < z.joined) es → foldl looked (looked o x) es ≡ looked (foldl looked o es) x
  looked_last x [] o a = refl
  looked_last x (z ∷ es) o a =
      ap (λ (q : Option QueueEntry). foldl looked q es) (looked_swap o x z (λ e. let k = a.0 in omega arith)) ∙ looked_last x es (looked o z) a.1

  -- so one that is put into a sorted row may be looked at last
  looked_inserted : (x : QueueEntry) (b : List QueueEntry) (o : Option QueueEntry) → Sorted earlier b → foldl looked o (insert_by earlier x b) ≡ looked (foldl looked o b) x
  unfolding insert_by
  looked_inserted x [] o s = refl
  looked_inserted x (y ∷ ys) o s =
      cases (earlier x y)
      (λ t. rw t (let h = ltb-true x.joined y.joined t in looked_last x (y ∷ ys) o (h, all_later x y ys h s.0)))
      (λ f. rw f (looked_inserted x ys (looked o y) s.1))

  -- and all who are put into it one after another as they come
  looked_sorted : (es b : List QueueEntry) (o : Option QueueEntry) → Sorted earlier b → foldl looked o (foldl (λ (sorted : List QueueEntry) x. insert_by earlier x sorted) b es) ≡ foldl looked (foldl looked o b) es
  looked_sorted [] b o s = refl
  looked_sorted (e ∷ es) b o s =
      looked_sorted es (insert_by earlier e b) o (sorted_inserted earlier (λ x. Unit {0}) (number_asym (λ (x : QueueEntry). x.joined)) (number_onward (λ (x : QueueEntry). x.joined)) e b (all_sound b) s)
      ∙ ap (λ (q : Option QueueEntry). foldl looked q es) (looked_inserted e b o s)

-- the pick is the same in order of joining
nearest_joining : (reference : Float) (used : List ℕ) (queue : List QueueEntry) → nearest reference used queue ≡ nearest reference used (by_joining queue)
nearest_joining reference used queue =
    let p : QueueEntry → Bool = λ x. not (is_of_any used x) in
    looked_keep reference p queue None ∙ sym (looked_sorted reference p queue [] None tt) ∙ sym (looked_keep reference p (by_joining queue) None)

-- and that order never falls
sorted_rising : (last : ℕ) (es : List QueueEntry) → All (λ e. last ≤ e.joined) es → Sorted earlier es → rising_from last (joined_by es) ≡ true
unfolding rising_from
sorted_rising last [] a s = refl
sorted_rising last (e ∷ es) a s =
    rw (le-ltb e.joined last a.0)
    (sorted_rising e.joined es (all_so (λ z. earlier z e ≡ false) (λ z. e.joined ≤ z.joined) (λ z f. ltb-false z.joined e.joined f) es s.0) s.1)

-- so the order of joining doesn't
joining_rises : (queue : List QueueEntry) → never_fall (joined_by (by_joining queue)) ≡ true
joining_rises queue =
    sorted_rising 0 (by_joining queue) (all_least (by_joining queue)) (sort_sorts earlier (λ x. Unit {0}) (number_asym (λ (x : QueueEntry). x.joined)) (number_onward (λ (x : QueueEntry). x.joined)) queue (all_sound queue))
  where
    all_least : (es : List QueueEntry) → All (λ e. 0 ≤ e.joined) es
    all_least [] = tt
    all_least (e ∷ es) = (omega arith, all_least es)

-- there the pick is document 01's
pub as_ordered : (queue : List QueueEntry) (reference : Float) (used : List ℕ) → nearest reference used queue ≡ nearest_by_place reference used (by_joining queue)
as_ordered queue reference used = nearest_joining reference used queue ∙ in_order (by_joining queue) (joining_rises queue) reference used
