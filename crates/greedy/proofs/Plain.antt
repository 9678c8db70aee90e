-- Greedy search as the code goes, with marks by place and running sums, is the definition's greedy search.
use Prim.Native.Nat.{ℕ, zero, suc, ◌≤◌, ◌<◌}
use mathlib.Core.Path.{◌≡◌, refl, sym, ap, ◌∙◌, subst}
use mathlib.Core.Bool.{Bool, true, false, not, cond}
use mathlib.Core.List.{List, [], ◌∷◌, ◌++◌, map, foldl, foldl-map, head-eq_of_cons-eq, tail-eq_of_cons-eq}
use Rattle.std.specs.Prelude.{Option, None, Some}
use native.Mathlib.Omega.{arith}
use native.Mathlib.Nat.{le_of_suc-le-suc, not-suc-le-zero}
use borrow.Author.Tests.{le-leb, lt-leb}
use lib.Dec.{eqb, ltb, leb}
use lib.Ieee.{Float, nan, inf, binary64, add, lt}
use lib.ListN.{length, take, get_or, replicate}
use lib.Seq.{take-suc, take-length}
use Rattle.base.specs.Lists.{seek, member, keep, times}
use Rattle.base.proofs.Cases.{cases, never}
use Rattle.base.proofs.Loops.{fold_append, keep_append}
use Rattle.base.proofs.Members.{eqb_sym}
use Rattle.queue.specs.declared.QueueEntry.{QueueEntry}
use Rattle.queue.specs.Columns.{no_entry}
use Rattle.queue.specs.Queue.{is_of_any, without_all}
use Rattle.roster.specs.Roster.{Roster}
use Rattle.matchmaker.specs.Quality.{sum_of}
use Rattle.seating.specs.declared.TeamComposition.{TeamComposition}
use Rattle.seating.specs.Turns.{seats_left, takes_a, grown}
use Rattle.greedy.specs.Greedy.{Filling, Search, distance, nearest, roster_rating, opened, picked, if_some, filled, begun, formed_by, anchored, greedy_matches}
use Rattle.greedy.specs.LongerWait.{closer_by_place, nearest_by_place}
use Rattle.greedy.specs.Steps.{Fill, Course, columns, nearer, struck, marked, opening, picking, filling, closing, anchoring, unmarked, running}
use Rattle.base.proofs.Arrays.{column_at}

-- ---- lists

-- a sum with one more at the end
sum_snoc : (f : ℕ → Float) (xs : List ℕ) (p : ℕ) → add binary64 (sum_of (map f xs)) (f p) ≡ sum_of (map f (xs ++ (p ∷ [])))
sum_snoc f xs p = rw (foldl-map f (add binary64) xs, foldl-map f (add binary64) (xs ++ (p ∷ [])), fold_append)

-- ---- marks by place, and the players used

-- which entries of the queue are of these players
abbrev marks : List QueueEntry → List ℕ → List Bool
marks queue used = map (λ e. member e.player used) queue

-- at first there is no mark
marks_none : (queue : List QueueEntry) (k : ℕ) → length queue ≤ k → take (length queue) (replicate k false) ≡ marks queue []
unfolding seek
marks_none [] k h = refl
marks_none (e ∷ queue) zero h = absurd (not-suc-le-zero h)
marks_none (e ∷ queue) (suc k) h = ap (λ l. false ∷ l) (marks_none queue k (le_of_suc-le-suc h))

-- at one place: it is marked where its player is the new one or was used before
mark_one : (p x y : ℕ) (u : Bool) (used : List ℕ) → x ≡ y → u ≡ member y used → cond (eqb x p) true u ≡ member y (p ∷ used)
unfolding seek
mark_one p x y u used e h = rw (e, h, eqb_sym p y)

-- a player more is used, and every place of the player is marked
marks_more : (p : ℕ) (used : List ℕ) (queue : List QueueEntry) (n : ℕ) (players : List ℕ) (us : List Bool) → take n players ≡ map (λ e. e.player) queue → take n us ≡ marks queue used → take n (marked p players us) ≡ marks queue (p ∷ used)
unfolding struck
marks_more p used [] n players us e h = go n players us e h
  where
    go : (n : ℕ) (players : List ℕ) (us : List Bool) → take n players ≡ [] → take n us ≡ [] → take n (marked p players us) ≡ []
    go zero players us e h = refl
    go (suc n) [] us e h = h
    go (suc n) (x ∷ players) us e h = never cc
marks_more p used (q ∷ queue) zero players us e h = never cc
marks_more p used (q ∷ queue) (suc n) [] us e h = never cc
marks_more p used (q ∷ queue) (suc n) (x ∷ players) [] e h = never cc
marks_more p used (q ∷ queue) (suc n) (x ∷ players) (u ∷ us) e h =
    let a : cond (eqb x p) true u ≡ member q.player (p ∷ used) = mark_one p x q.player u used (head-eq_of_cons-eq e) (head-eq_of_cons-eq h) in
    rw (a, marks_more p used queue n players us (tail-eq_of_cons-eq e) (tail-eq_of_cons-eq h))

-- ---- a pick

-- the distance of the nearest so far; infinity where there is none
abbrev reach : Float → Option QueueEntry → Float
reach reference None = inf false
reach reference (Some e) = distance reference e.rating

-- one more entry is held against it
closer_by : (reference : Float) (o : Option QueueEntry) (e : QueueEntry) → closer_by_place reference o e ≡ cond (lt (distance reference e.rating) (reach reference o)) (Some e) o
closer_by reference None e = refl
closer_by reference (Some near) e = refl

-- the place and the distance that are kept, and the entry that is nearest: there is none, and the place is n; or it is there
abbrev Kept : List QueueEntry → ℕ → Float → ℕ → Float → Option QueueEntry → Type 0
Kept queue n reference place near None = (place ≡ n) × (near ≡ inf false)
Kept queue n reference place near (Some e) = (place < n) × (e ≡ get_or queue place no_entry) × (near ≡ distance reference e.rating)

-- the distance kept is that of the nearest so far
kept_reach : (queue : List QueueEntry) (n : ℕ) (reference : Float) (place : ℕ) (near : Float) (o : Option QueueEntry) → Kept queue n reference place near o → near ≡ reach reference o
kept_reach queue n reference place near None k = k.1
kept_reach queue n reference place near (Some e) k = k.2

module _ (queue : List QueueEntry) (n : ℕ) (reference : Float) (ratings : List Float) (us : List Bool) (used : List ℕ) (all : n ≡ length queue) (rated : take n ratings ≡ map (λ e. e.rating) queue) (marks : take n us ≡ marks queue used) where
  -- the entry at one more place
  kept_on : (i place : ℕ) (near : Float) (o : Option QueueEntry) → i < n → Kept queue n reference place near o →
      let b = nearer reference ratings us i (record { place = place; distance = near }) in
      Kept queue n reference b.place b.distance (foldl (closer_by_place reference) o (without_all used (get_or queue i no_entry ∷ [])))
  unfolding nearer keep
  kept_on i place near o h k =
      let u = column_at (λ e. member e.player used) no_entry false us queue n i marks all h in
      let r = column_at (λ e. e.rating) no_entry nan ratings queue n i rated all h in
      let e = kept_reach queue n reference place near o k in
      let l = subst (λ (x : Float). Kept queue n reference place x o) e k in
      rw (u, r)
      (cases (member (get_or queue i no_entry).player used)
      (λ t. rw t k)
      (λ f. rw (f, closer_by reference o (get_or queue i no_entry), e)
      (cases (lt (distance reference (get_or queue i no_entry).rating) (reach reference o)) (λ t. rw t (h, refl, refl)) (λ g. rw g l))))

  -- the entries at the first i places
  kept_first : (i : ℕ) → i ≤ n →
      let b = times (nearer reference ratings us) (record { place = n; distance = inf false }) i in
      Kept queue n reference b.place b.distance (foldl (closer_by_place reference) None (without_all used (take i queue)))
  unfolding times keep
  kept_first zero h = (refl, refl)
  kept_first (suc i) h =
      let b = times (nearer reference ratings us) (record { place = n; distance = inf false }) i in
      let k : i ≤ n = omega arith in
      let l : i < length queue = omega arith in
      rw (
        take-suc queue i no_entry l,
        keep_append (λ e. not (is_of_any used e)) (take i queue) (get_or queue i no_entry ∷ []),
        fold_append (closer_by_place reference) None (without_all used (take i queue)) (without_all used (get_or queue i no_entry ∷ [])),
      )
      (kept_on i b.place b.distance _ h (kept_first i k))

  -- the place that the code finds is the nearest entry's
  kept_all : let b = times (nearer reference ratings us) (record { place = n; distance = inf false }) n in Kept queue n reference b.place b.distance (nearest_by_place reference used queue)
  kept_all =
      let b = times (nearer reference ratings us) (record { place = n; distance = inf false }) n in
      let e : take n queue ≡ queue = ap (λ (k : ℕ). take k queue) all ∙ take-length queue in
      subst (λ (q : List QueueEntry). Kept queue n reference b.place b.distance (nearest_by_place reference used q)) e (kept_first n (omega arith))

-- ---- one anchor

-- the code's teams while they fill: marks instead of players, and A's sum beside them
abbrev view : Roster → List Bool → Filling → Fill
view r us g = record { used = us; teams = g.teams; sum = sum_of (map (roster_rating r) g.teams.a.players); reference = g.reference }

-- the definition's queue, and the row that the code's columns are of: the picks from the one are document 01's from the other
module _ (s : TeamComposition) (r : Roster) (queue row : List QueueEntry) (alike : (reference : Float) (used : List ℕ) → nearest reference used queue ≡ nearest_by_place reference used row)
    (players : List ℕ) (ratings rostered : List Float) (n : ℕ) (all : n ≡ length row) (named : take n players ≡ map (λ e. e.player) row) (rated : take n ratings ≡ map (λ e. e.rating) row) (placed : take n rostered ≡ map (λ e. roster_rating r e.player) row) where
  -- the code's teams are those of the definition, and its marks those of the players used
  record Same (f : Fill) (g : Filling) : Type 0 where
    marks : take n f.used ≡ marks row g.used
    shown : f ≡ view r f.used g

  -- what the columns have at a place
  player_at_lem : (i : ℕ) → i < n → get_or players i 0 ≡ (get_or row i no_entry).player
  player_at_lem i h = column_at (λ e. e.player) no_entry 0 players row n i named all h

  rating_at : (i : ℕ) → i < n → get_or ratings i nan ≡ (get_or row i no_entry).rating
  rating_at i h = column_at (λ e. e.rating) no_entry nan ratings row n i rated all h

  rostered_at : (i : ℕ) → i < n → get_or rostered i nan ≡ roster_rating r (get_or row i no_entry).player
  rostered_at i h = column_at (λ e. roster_rating r e.player) no_entry nan rostered row n i placed all h

  -- the anchor opens the same teams
  open_same : (us : List Bool) (used : List ℕ) (i : ℕ) → i < n → take n us ≡ marks row used → Same (opening (columns players ratings rostered) us i) (opened used (get_or row i no_entry))
  open_same us used i h m =
      rw (player_at_lem i h, rating_at i h, rostered_at i h)
      (record { marks = marks_more (get_or row i no_entry).player used row n players us named m; shown = refl })

  -- a pick at the entry's place
  pick_same : (us : List Bool) (g : Filling) (i : ℕ) → i < n → take n us ≡ marks row g.used → Same (picking s players rostered (view r us g) i) (picked s r g (get_or row i no_entry))
  unfolding picking grown
  pick_same us g i h m =
      let p = (get_or row i no_entry).player in
      let k = marks_more p g.used row n players us named m in
      let e = sum_snoc (roster_rating r) g.teams.a.players p in
      rw (player_at_lem i h, rostered_at i h)
      (cases (takes_a s g.teams)
      (λ t. rw (t, e) (record { marks = k; shown = refl }))
      (λ t. rw t (cases (ltb (length g.teams.b.players) s.b) (λ u. rw u (record { marks = k; shown = refl })) (λ u. rw u (record { marks = k; shown = refl })))))

  -- one more pick, if there is one, and what comes behind it
  fill_on : (left : ℕ) → ((f : Fill) (g : Filling) → Same f g → Same (filling s (columns players ratings rostered) n left f) (filled s r queue left g)) →
      (f : Fill) (g : Filling) → Same f g → (place : ℕ) (near : Float) (o : Option QueueEntry) → Kept row n g.reference place near o →
      Same (cond (leb n place) f (filling s (columns players ratings rostered) n left (picking s players rostered f place))) (if_some o (λ e. filled s r queue left (picked s r g e)) g)
  fill_on left rest f g h place near None k = rw (le-leb n place (omega (arith, k.0))) h
  fill_on left rest f g h place near (Some e) k =
      let l = pick_same f.used g place k.0 h.marks in
      let m = subst (λ (x : Fill). Same (picking s players rostered x place) (picked s r g (get_or row place no_entry))) (sym h.shown) l in
      rw (lt-leb n place k.0, k.1) (rest (picking s players rostered f place) (picked s r g (get_or row place no_entry)) m)

  -- the picks of an anchor
  fill_same : (left : ℕ) (f : Fill) (g : Filling) → Same f g → Same (filling s (columns players ratings rostered) n left f) (filled s r queue left g)
  unfolding filling filled
  fill_same zero f g h = h
  fill_same (suc left) f g h =
      let b = times (nearer f.reference ratings f.used) (record { place = n; distance = inf false }) n in
      let e : f.reference ≡ g.reference = ap (λ (x : Fill). x.reference) h.shown in
      let k = kept_all row n f.reference ratings f.used g.used all rated h.marks in
      let l = subst (λ (x : Float). Kept row n x b.place b.distance (nearest_by_place x g.used row)) e k in
      rw (alike g.reference g.used) (fill_on left (fill_same left) f g h b.place b.distance (nearest_by_place g.reference g.used row) l)

  -- ---- all anchors

  -- the code's matches are those of the definition, and its marks those of the players used
  record Alike (o : Course) (q : Search) : Type 0 where
    marks : take n o.used ≡ marks row q.used
    formed : o.matches ≡ q.matches

  -- the match of an anchor is formed in both or in neither
  close_alike : (o : Course) (q : Search) (f : Fill) (g : Filling) → Alike o q → Same f g → Alike (closing s o f) (formed_by s q g)
  close_alike o q f g a h =
      let e : f.teams ≡ g.teams = ap (λ (x : Fill). x.teams) h.shown in
      record { marks = h.marks; formed = rw (e, a.formed) }

  -- the anchor at one place
  anchor_alike : (o : Course) (q : Search) (i : ℕ) → i < n → Alike o q → Alike (anchoring s (columns players ratings rostered) n i o) (anchored s r queue q (get_or row i no_entry))
  unfolding anchoring anchored
  anchor_alike o q i h a =
      let u = column_at (λ e. member e.player q.used) no_entry false o.used row n i a.marks all h in
      let k = fill_same (seats_left s) _ _ (open_same o.used q.used i h a.marks) in
      let l = close_alike o q _ _ a k in
      rw u (cases (member (get_or row i no_entry).player q.used) (λ t. rw t a) (λ t. rw t l))

  -- the first i anchors of the queue, each at its place in the row
  anchors_alike : (turns : List ℕ) → n ≡ length queue → n ≤ 64 → ((i : ℕ) → i < n → (get_or turns i 0 < n) × (get_or row (get_or turns i 0) no_entry ≡ get_or queue i no_entry)) → (i : ℕ) → i ≤ n →
      Alike (times (λ i. anchoring s (columns players ratings rostered) n (get_or turns i 0)) unmarked i) (foldl (anchored s r queue) begun (take i queue))
  unfolding times
  anchors_alike turns whole fits at zero h = record { marks = ap (λ (k : ℕ). take k (replicate 64 false)) all ∙ marks_none row 64 (omega arith); formed = refl }
  anchors_alike turns whole fits at (suc i) h =
      let k : i ≤ n = omega arith in
      let l : i < length queue = omega arith in
      let t = at i h in
      rw (take-suc queue i no_entry l, fold_append (anchored s r queue) begun (take i queue) (get_or queue i no_entry ∷ []), ← t.1)
      (anchor_alike _ _ (get_or turns i 0) t.0 (anchors_alike turns whole fits at i k))

-- the matches of the code's greedy search, over the columns of a row from which document 01's picks are the queue's, with each of the
-- queue's anchors at its place in the row, are the queue's
pub greedy_plain : (s : TeamComposition) (r : Roster) (queue row : List QueueEntry) → ((reference : Float) (used : List ℕ) → nearest reference used queue ≡ nearest_by_place reference used row) →
    (players turns : List ℕ) (ratings rostered : List Float) (n : ℕ) → n ≡ length queue → n ≡ length row → n ≤ 64 → take n players ≡ map (λ e. e.player) row → take n ratings ≡ map (λ e. e.rating) row → take n rostered ≡ map (λ e. roster_rating r e.player) row →
    ((i : ℕ) → i < n → (get_or turns i 0 < n) × (get_or row (get_or turns i 0) no_entry ≡ get_or queue i no_entry)) →
    (running s (columns players ratings rostered) turns n unmarked).matches ≡ greedy_matches s r queue
greedy_plain s r queue row alike players turns ratings rostered n whole all fits named rated placed at =
    let a = anchors_alike s r queue row alike players ratings rostered n all named rated placed turns whole fits at n (omega arith) in
    let e : take n queue ≡ queue = ap (λ (k : ℕ). take k queue) whole ∙ take-length queue in
    a.formed ∙ ap (λ (q : List QueueEntry). (foldl (anchored s r queue) begun q).matches) e
