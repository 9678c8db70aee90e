-- Where joined times never fall the greedy pick is document 01's: of equal distances the earlier place.
use Prim.Native.Nat.{ℕ, zero, suc, ◌+◌, ◌≤◌}
use mathlib.Core.Path.{◌≡◌, refl, ap, ◌∙◌}
use mathlib.Core.Bool.{Bool, true, false, not}
use mathlib.Core.List.{List, [], ◌∷◌, map, foldl}
use Rattle.std.specs.Prelude.{Option, None, Some}
use native.Mathlib.Numerals.{add-one}
use native.Mathlib.Omega.{arith}
use Rattle.std.specs.List.{range_with_len}
use borrow.Author.Tests.{le-ltb}
use lib.Ieee.{Float, inf, lt}
use Rattle.base.specs.Lists.{keep, places_from}
use Rattle.base.proofs.Cases.{cases}
use Rattle.ranking.specs.Times.{rising_from, never_fall}
use Rattle.queue.specs.declared.QueueEntry.{QueueEntry}
use Rattle.queue.specs.Queue.{is_of_any, without_all}
use Rattle.greedy.specs.Greedy.{distance, closer, nearest}
use Rattle.greedy.specs.LongerWait.{closer_by_place, nearest_by_place}
use Rattle.greedy.proofs.Ties.{before_late}
use Rattle.ranking.proofs.ByTime.{rising_first}

-- ---- the places

-- as many numbers from one on, told by the library, are places
pub places_range : (at n : ℕ) → map (λ x. x) (range_with_len at n) ≡ places_from at n
unfolding places_from
places_range at zero = refl
places_range at (suc n) = ap (λ (l : List ℕ). at ∷ l) (places_range (at + 1) n ∙ rw add-one refl)

-- ---- times that never fall

-- when the entries joined
abbrev pub joined_by : List QueueEntry → List ℕ
joined_by = map (λ e. e.joined)

-- rising from later on, they rise from earlier on
rising_since : (a b : ℕ) (xs : List ℕ) → a ≤ b → rising_from b xs ≡ true → rising_from a xs ≡ true
unfolding rising_from
rising_since a b [] h k = refl
rising_since a b (x ∷ xs) h k =
    let r = rising_first b x xs k in
    rw (le-ltb x a (omega (arith, h, r.0))) r.1

-- and so do those whom a test keeps
rising_keep : (p : QueueEntry → Bool) (last : ℕ) (es : List QueueEntry) → rising_from last (joined_by es) ≡ true → rising_from last (joined_by (keep p es)) ≡ true
unfolding keep rising_from
rising_keep p last [] h = refl
rising_keep p last (e ∷ es) h =
    let r = rising_first last e.joined (joined_by es) h in
    let k = rising_keep p e.joined es r.1 in
    cases (p e) (λ t. rw (t, le-ltb e.joined last r.0) k) (λ f. rw f (rising_since last e.joined (joined_by (keep p es)) r.0 k))

-- ---- the pick

-- the nearest so far joined by a time that nobody behind it is before
abbrev By : ℕ → Option QueueEntry → Type 0
By last None = Unit {0}
By last (Some e) = e.joined ≤ last

module _ (reference : Float) where
  -- both rules take the same of the nearest so far and one who joined no earlier
  in_order_one : (o : Option QueueEntry) (e : QueueEntry) → By e.joined o → closer reference o e ≡ closer_by_place reference o e
  unfolding closer
  in_order_one None e h = refl
  in_order_one (Some near) e h = rw (before_late (distance reference e.rating) e.joined (distance reference near.rating) near.joined h)

  -- and what they take joined by then
  by_then : (o : Option QueueEntry) (e : QueueEntry) → By e.joined o → By e.joined (closer_by_place reference o e)
  by_then None e h = cases (lt (distance reference e.rating) (inf false)) (λ t. rw t (omega arith)) (λ f. rw f tt)
  by_then (Some near) e h = cases (lt (distance reference e.rating) (distance reference near.rating)) (λ t. rw t (omega arith)) (λ f. rw f h)

  by_later : (a b : ℕ) (o : Option QueueEntry) → a ≤ b → By a o → By b o
  by_later a b None h k = tt
  by_later a b (Some e) h k = omega (arith, h, k)

  -- so they do of all who are left
  in_order_all : (es : List QueueEntry) (last : ℕ) (o : Option QueueEntry) → By last o → rising_from last (joined_by es) ≡ true → foldl (closer reference) o es ≡ foldl (closer_by_place reference) o es
  in_order_all [] last o b h = refl
  in_order_all (e ∷ es) last o b h =
      let r = rising_first last e.joined (joined_by es) h in
      let k = by_later last e.joined o r.0 b in
      rw (in_order_one o e k) (in_order_all es e.joined (closer_by_place reference o e) (by_then o e k) r.1)

pub in_order : (queue : List QueueEntry) → never_fall (joined_by queue) ≡ true → (reference : Float) (used : List ℕ) → nearest reference used queue ≡ nearest_by_place reference used queue
in_order queue h reference used = in_order_all reference (without_all used queue) 0 None tt (rising_keep (λ x. not (is_of_any used x)) 0 queue h)
