-- Document 02, 2.2, "Equal distance goes to the longer wait": one statement over the picks from any list of entries.
use Rattle.std.specs.Prelude.{ℕ, ◌≤◌, ◌<◌, ◌≡◌, true, false, cond, ltb, Float, Option, None, Some}
use mathlib.Core.List.{List, ◌∷◌, ◌++◌, map, foldl}
use Rattle.std.specs.Float.{inf}
use Rattle.std.specs.Float.Ieee.{lt, eq}
use Rattle.base.specs.Lists.{All}
use Rattle.base.specs.Ranking.{sort_by}
use Rattle.ranking.specs.Times.{never_fall}
use Rattle.queue.specs.declared.QueueEntry.{QueueEntry}
use Rattle.queue.specs.Queue.{without_all}
use Rattle.greedy.specs.Greedy.{distance, nearest}

-- ---- which entry is picked

-- e is one of these entries: no distance is smaller; of those at an equal distance nobody joined earlier; and of those who joined at the
-- same time too it stands first. Its distance is a number below infinity
pub record Foremost (reference : Float) (entries : List QueueEntry) (e : QueueEntry) : Type 0 where
  pub before : List QueueEntry
  pub behind : List QueueEntry
  pub split : entries ≡ before ++ (e ∷ behind)
  pub smallest : All (λ x. lt (distance reference x.rating) (distance reference e.rating) ≡ false) entries
  pub longest : All (λ x. eq (distance reference x.rating) (distance reference e.rating) ≡ true → e.joined ≤ x.joined) entries
  pub first : All (λ x. eq (distance reference x.rating) (distance reference e.rating) ≡ true → e.joined < x.joined) before
  pub finite : lt (distance reference e.rating) (inf false) ≡ true

-- of these entries the foremost is picked; none, where no distance is a number below infinity, whatever the joined times
abbrev pub Picked : Float → List QueueEntry → Option QueueEntry → Type 0
Picked reference entries None = All (λ x. lt (distance reference x.rating) (inf false) ≡ false) entries
Picked reference entries (Some e) = Foremost reference entries e

-- ---- document 01's pick, which the Rust has

-- "the strictly smallest distance ..; equal distance takes the earlier entry"
abbrev pub closer_by_place : Float → Option QueueEntry → QueueEntry → Option QueueEntry
closer_by_place reference None e = cond (lt (distance reference e.rating) (inf false)) (Some e) None
closer_by_place reference (Some near) e = cond (lt (distance reference e.rating) (distance reference near.rating)) (Some e) (Some near)

abbrev pub nearest_by_place : Float → List ℕ → List QueueEntry → Option QueueEntry
nearest_by_place reference used queue = foldl (closer_by_place reference) None (without_all used queue)

-- a queue put in order of joining, those who joined at the same time in their order
abbrev pub by_joining : List QueueEntry → List QueueEntry
by_joining = sort_by (λ x y. ltb x.joined y.joined)

-- ---- the statement

pub record LongerWait (queue : List QueueEntry) : Type 0 where
  -- the pick is the foremost of the unused entries, for any reference and whoever is used
  pub pick : (reference : Float) (used : List ℕ) → Picked reference (without_all used queue) (nearest reference used queue)
  -- which says it all: no two entries, and no two places, are foremost
  pub only : (reference : Float) (used : List ℕ) (e f : QueueEntry) (p : Foremost reference (without_all used queue) e) (q : Foremost reference (without_all used queue) f) →
      (p.before ≡ q.before) × (e ≡ f)
  -- it is document 01's pick from the queue put in order of joining
  pub as_ordered : (reference : Float) (used : List ℕ) → nearest reference used queue ≡ nearest_by_place reference used (by_joining queue)
  -- so in "queues whose joined times never fall" it is document 01's pick, and there the Rust can be asked
  pub in_order : never_fall (map (λ e. e.joined) queue) ≡ true → (reference : Float) (used : List ℕ) → nearest reference used queue ≡ nearest_by_place reference used queue
