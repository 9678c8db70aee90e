-- The queue in the order that its joined times have by place: it is the queue put in order of joining, and each of the queue's entries
-- stands in it where the order says.
use Prim.Native.Nat.{ℕ, ◌+◌, ◌≤◌, ◌<◌}
use mathlib.Core.Path.{◌≡◌, refl, sym, ap, ◌∙◌}
use mathlib.Core.List.{List, [], ◌∷◌, map}
use native.Mathlib.Omega.{arith}
use lib.Dec.{ltb}
use lib.ListN.{length, take, get_or, length-map, get_or-map}
use lib.Seq.{take-length, get_or-take, length-take-le}
use Rattle.base.specs.Lists.{All, places_from}
use Rattle.base.specs.Ranking.{sort_by}
use Rattle.base.proofs.Places.{places_below, place_at, listed_places}
use Rattle.base.proofs.Sorting.{sort_permutes, permuted_length, sort_map, all_permuted}
use Rattle.queue.specs.declared.QueueEntry.{QueueEntry}
use Rattle.queue.specs.Columns.{no_entry}
use Rattle.ranking.specs.Times.{earlier_at, places_by_time}
use Rattle.base.proofs.All.{place_below}
use Rattle.greedy.specs.LongerWait.{by_joining}
use Rattle.greedy.proofs.InOrder.{joined_by}
use Rattle.base.proofs.Arrays.{column_at}

module _ (queue : List QueueEntry) where
  -- the entry at a place
  abbrev entry_at : ℕ → QueueEntry
  entry_at p = get_or queue p no_entry

  -- a place has the joined time of its entry
  joined_at_lem : (p : ℕ) → get_or (joined_by queue) p 0 ≡ (entry_at p).joined
  joined_at_lem p = get_or-map (λ (e : QueueEntry). e.joined) queue p no_entry

  -- the queue is what stands at its places
  entries_at : map entry_at (places_from 0 (length queue)) ≡ queue
  entries_at = sym (listed_places no_entry queue 0 (length queue) (omega arith))

  -- so the entries by the order of the places are the entries in order
  pub joining_at : map entry_at (places_by_time (joined_by queue)) ≡ by_joining queue
  joining_at =
      let before : earlier_at (joined_by queue) ≡ (λ p q. ltb (entry_at p).joined (entry_at q).joined) = λ i p q. ltb (joined_at_lem p i) (joined_at_lem q i) in
      let many : length (joined_by queue) ≡ length queue = length-map queue (λ (e : QueueEntry). e.joined) in
      ap (map entry_at) ((λ i. sort_by (before i) (places_from 0 (many i))))
      ∙ sym (sort_map entry_at (λ x y. ltb x.joined y.joined) (places_from 0 (length queue)))
      ∙ ap (sort_by (λ x y. ltb x.joined y.joined)) entries_at

  pub length_joining : length (by_joining queue) ≡ length queue
  length_joining = sym (permuted_length (sort_permutes (λ x y. ltb x.joined y.joined) queue))

-- what a column of the queue has at some places is what the entries there have
column_arranged : (queue : List QueueEntry) {A : Type 0} (f : QueueEntry → A) (d : A) (column : List A) (n : ℕ) → n ≡ length queue → take n column ≡ map f queue → (ps : List ℕ) → All (λ p. p < n) ps → map (λ p. get_or column p d) ps ≡ map f (map (entry_at queue) ps)
column_arranged queue f d column n all e [] a = refl
column_arranged queue f d column n all e (p ∷ ps) a =
    let h = column_at f no_entry d column queue n p e all a.0 in
    let t = column_arranged queue f d column n all e ps a.1 in
    λ j. h j ∷ t j

-- n times and their order as it is found: places, and where each stands
module _ (n : ℕ) (times places stands : List ℕ) (many : length (take n times) ≡ n) (ordered : take n places ≡ places_by_time (take n times)) (below : All (λ p. p < length (take n times)) (take n stands)) where
  -- places and stands are below n
  pub places_fit : All (λ p. p < n) (take n places)
  places_fit =
      let ts = take n times in
      rw ordered (all_permuted (λ p. p < n) (sort_permutes (earlier_at ts) (places_from 0 (length ts))) (places_below 0 (length ts) n (omega arith)))

  pub stands_fit : All (λ p. p < n) (take n stands)
  stands_fit = rw many at below

-- a queue, its joined times, and their order as it is found
module _ (queue : List QueueEntry) (n : ℕ) (times places stands : List ℕ) (all : n ≡ length queue) (timed : take n times ≡ joined_by queue) (room : n ≤ length places) (space : n ≤ length stands)
    (ordered : take n places ≡ places_by_time (take n times)) (found : map (λ p. get_or places p 0) (take n stands) ≡ places_from 0 (length (take n times))) (below : All (λ p. p < length (take n times)) (take n stands)) where
  many : length (take n times) ≡ n
  many = ap length timed ∙ length-map queue (λ (e : QueueEntry). e.joined) ∙ sym all

  order : take n places ≡ places_by_time (joined_by queue)
  order = ordered ∙ ap places_by_time timed

  -- the entries at the places are the queue in order of joining
  pub row_joining : map (entry_at queue) (take n places) ≡ by_joining queue
  row_joining = ap (map (entry_at queue)) order ∙ joining_at queue

  -- a column of the queue, put in the order of the places, is the column of the queue in order of joining
  pub column_joining : {A : Type 0} (f : QueueEntry → A) (d : A) (column : List A) → take n column ≡ map f queue → map (λ p. get_or column p d) (take n places) ≡ map f (by_joining queue)
  column_joining f d column e = column_arranged queue f d column n all e (take n places) (places_fit n times places stands many ordered below) ∙ ap (map f) row_joining

  -- where an entry stands in the order is its place
  found_at : (i : ℕ) → i < n → get_or places (get_or stands i 0) 0 ≡ i
  found_at i h =
      let f : ℕ → ℕ = λ p. get_or places p 0 in
      let z : 0 + i ≡ i = omega arith in
      let l : length (take n stands) ≡ n = length-take-le n stands space in
      let m : map f (take n stands) ≡ places_from 0 n = found ∙ ap (places_from 0) many in
      let e : take n (places_from 0 n) ≡ map f (take n stands) = rw (← m) (ap (λ (k : ℕ). take k (map f (take n stands))) (sym (length-map (take n stands) f ∙ l)) ∙ take-length (map f (take n stands))) in
      sym (ap f (get_or-take n stands i 0 h)) ∙ sym (column_at f 0 0 (places_from 0 n) (take n stands) n i e (sym l) h) ∙ place_at 0 n i h ∙ z

  -- so there stands the entry
  pub turn_at_lem : (i : ℕ) → i < n → (get_or stands i 0 < n) × (get_or (by_joining queue) (get_or stands i 0) no_entry ≡ get_or queue i no_entry)
  turn_at_lem i h =
      let k : get_or stands i 0 < n = place_below n stands n i space h (stands_fit n times places stands many ordered below) in
      let l : length (by_joining queue) ≡ n = length_joining queue ∙ sym all in
      let e : take n (by_joining queue) ≡ map (entry_at queue) (take n places) = ap (λ (m : ℕ). take m (by_joining queue)) (sym l) ∙ take-length (by_joining queue) ∙ sym row_joining in (
        k,
        column_at (entry_at queue) 0 no_entry (by_joining queue) (take n places) n (get_or stands i 0) e (sym (length-take-le n places room)) k
            ∙ ap (entry_at queue) (get_or-take n places (get_or stands i 0) 0 k ∙ found_at i h),
      )
