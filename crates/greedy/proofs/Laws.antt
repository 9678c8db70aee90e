-- What each turn of the search's loops does, and one law for each answer, over plain lists and floats.
use Prim.Native.Nat.{ℕ, zero, suc, ◌+◌, ◌≤◌, ◌<◌}
use mathlib.Core.Path.{◌≡◌, refl, sym, ◌∙◌}
use mathlib.Core.Bool.{Bool, true, false, cond}
use mathlib.Core.List.{List, [], ◌∷◌, ◌++◌}
use native.Mathlib.Numerals.{add-one}
use native.Mathlib.Omega.{arith}
use borrow.Author.Tests.{le-leb, lt-leb}
use lib.Dec.{eqb}
use lib.Ieee.{Float, nan, binary64, add, sub, lt}
use lib.ListN.{length, take, drop, get_or, set, take-append-drop, drop_of_length-le}
use lib.Seq.{drop-cons, append_snoc, take-suc, drop-set-lt}
use Rattle.base.specs.Floats as F
use Rattle.base.proofs.Cases.{cases}
use Rattle.base.proofs.Arrays.{push}
use Rattle.matchmaker.specs.Quality.{MatchState, average_from}
use Rattle.seating.specs.declared.TeamComposition.{TeamComposition}
use Rattle.seating.specs.Turns.{alone, takes_a, grown, seats_left}
use Rattle.greedy.specs.Steps.{Columns, Near, magnitude_of, nearer_free, nearest_place, struck, marked, Fill, summed, picking, filling, Course, closing, anchoring, opening}

-- ---- the nearest

module _ (reference : Float) (free : List Float) (i : ℕ) (best : Near) {d : Float} (e : d ≡ magnitude_of (sub binary64 reference (get_or free i nan))) where
  -- a nearer one is kept
  pub near_kept : lt d best.distance ≡ true → ◌≡◌ {A = Near} (record { place = i; distance = d }) (nearer_free reference free i best)
  unfolding nearer_free
  near_kept t = rw (← e, t)

  -- another isn't
  pub near_left : lt d best.distance ≡ false → best ≡ nearer_free reference free i best
  unfolding nearer_free
  near_left t = rw (← e, t)

-- ---- marks

module _ {A : Type 0} (a d : A) (p : ℕ) (xs : List ℕ) (us : List A) (i : ℕ) {w : List A} (inv : take i us ++ struck a p (drop i xs) (drop i us) ≡ w) where
  strike_next : i < length xs → i < length us → struck a p (drop i xs) (drop i us) ≡ cond (eqb (get_or xs i 0) p) a (get_or us i d) ∷ struck a p (drop (i + 1) xs) (drop (i + 1) us)
  unfolding struck
  strike_next h k = rw (drop-cons xs i 0 h, drop-cons us i d k, add-one i)

  -- a place of the player
  pub strike_hit : i < length xs → i < length us → eqb (get_or xs i 0) p ≡ true → take (i + 1) (set us i a) ++ struck a p (drop (i + 1) xs) (drop (i + 1) (set us i a)) ≡ w
  strike_hit h k t =
      let n : struck a p (drop i xs) (drop i us) ≡ a ∷ struck a p (drop (i + 1) xs) (drop (i + 1) us) = strike_next h k ∙ rw t in
      rw (push us i a k, drop-set-lt (i + 1) us i a (omega arith), append_snoc (take i us) a (struck a p (drop (i + 1) xs) (drop (i + 1) us)), ← n) inv

  -- a place of another's
  pub strike_miss : i < length xs → i < length us → eqb (get_or xs i 0) p ≡ false → take (i + 1) us ++ struck a p (drop (i + 1) xs) (drop (i + 1) us) ≡ w
  strike_miss h k f =
      let n : struck a p (drop i xs) (drop i us) ≡ get_or us i d ∷ struck a p (drop (i + 1) xs) (drop (i + 1) us) = strike_next h k ∙ rw f in
      let t : take (i + 1) us ≡ take i us ++ (get_or us i d ∷ []) = rw (add-one i) (take-suc us i d k) in
      rw (t, append_snoc (take i us) (get_or us i d) (struck a p (drop (i + 1) xs) (drop (i + 1) us)), ← n) inv

  -- all places are looked at
  pub strike_end : length xs ≤ i → us ≡ w
  unfolding struck
  strike_end h = sym (take-append-drop i us) ∙ (rw (drop_of_length-le xs h) at inv)

-- ---- one anchor

-- the anchor's marks and its team, found by calls
pub opens : (c : Columns) (used : List Bool) (at : ℕ) {u : List Bool} {m : MatchState} → u ≡ marked (get_or c.players at 0) c.players used → m ≡ alone (get_or c.players at 0) →
    ◌≡◌ {A = Fill} (record { used = u; teams = m; sum = add binary64 F.zero (get_or c.rostered at nan); reference = get_or c.ratings at nan }) (opening c used at)
opens c used at e h = rw (e, h)

module _ (s : TeamComposition) (players : List ℕ) (rostered : List Float) (f : Fill) (at : ℕ) {u : List Bool} {m : MatchState} {t : Bool}
    (marks : u ≡ marked (get_or players at 0) players f.used) (seats : m ≡ grown s f.teams (get_or players at 0)) (turn : t ≡ takes_a s f.teams) where
  -- a pick of A's: its rating counts in A's average of n
  pub picks_a : t ≡ true → {n : ℕ} → n ≡ length m.a.players → {x : Float} → x ≡ average_from (summed rostered f at) n →
      ◌≡◌ {A = Fill} (record { used = u; teams = m; sum = summed rostered f at; reference = x }) (picking s players rostered f at)
  unfolding picking
  picks_a e h k = rw (sym turn ∙ e, k, h, seats, marks)

  -- any other
  pub picks_b : t ≡ false → ◌≡◌ {A = Fill} (record { used = u; teams = m; sum = f.sum; reference = f.reference }) (picking s players rostered f at)
  unfolding picking
  picks_b e = rw (sym turn ∙ e, seats, marks)

-- every place of the pick is marked
pub pick_used : (s : TeamComposition) (players : List ℕ) (rostered : List Float) (f : Fill) (at : ℕ) → (picking s players rostered f at).used ≡ marked (get_or players at 0) players f.used
unfolding picking
pick_used s players rostered f at = cases (takes_a s f.teams) (λ t. rw t) (λ t. rw t)

module _ (s : TeamComposition) (c : Columns) (n : ℕ) where
  -- no seat is left
  pub fills_end : (left : ℕ) (f : Fill) → left ≤ 0 → f ≡ filling s c n left f
  unfolding filling
  fills_end zero f h = refl
  fills_end (suc left) f h = absurd (omega arith)

  module _ (f : Fill) {next : ℕ} (nearest : next ≡ nearest_place f.reference c.ratings f.used n) where
    -- a seat is left, and there is no pick
    pub fills_none : (left : ℕ) → 0 < left → n ≤ next → f ≡ filling s c n left f
    unfolding filling
    fills_none zero h k = absurd (omega arith)
    fills_none (suc left) h k = rw (← nearest, le-leb n next k)

    -- a seat is left, and goes to the pick
    pub fills_on : (left rest : ℕ) → left ≡ suc rest → next < n → {g : Fill} → g ≡ picking s c.players c.rostered f next → filling s c n rest g ≡ filling s c n left f
    unfolding filling
    fills_on left rest h k e = rw (h, ← nearest, lt-leb n next k, e)

-- ---- all anchors

module _ (s : TeamComposition) (c : Columns) (n i : ℕ) (o : Course) where
  -- a used anchor is passed over
  pub anchor_used : get_or o.used i false ≡ true → o ≡ anchoring s c n i o
  unfolding anchoring
  anchor_used u = rw u

  -- any other opens a match, which is formed where it is complete; the marks stay either way
  pub anchor_fills : get_or o.used i false ≡ false → {f : Fill} → f ≡ filling s c n (seats_left s) (opening c o.used i) → closing s o f ≡ anchoring s c n i o
  unfolding anchoring
  anchor_fills free fills = rw (free, fills)
