-- The walk through the choices as the code goes: it takes the next player of the row and then leaves that player, and stops where
-- too few are left.
use Prim.Native.Nat.{ℕ, zero, suc, ◌+◌, ◌-◌, ◌*◌, ◌≤◌, ◌<◌, ◌^◌}
use mathlib.Core.Path.{◌≡◌, refl, sym, ap, ◌∙◌}
use mathlib.Core.List.{List, [], ◌∷◌, ◌++◌, map, map-map, map-append, foldl, foldl-append, Memᴰ}
use native.Mathlib.Nat.{pow-suc, add-mul, suc-mul, zero-mul}
use native.Mathlib.Numerals.{sub-one, add-one}
use native.Mathlib.Omega.{arith}
use borrow.Author.Tests.{lt-ltb, le-ltb, ltb-true, ltb-false}
use borrow.Rule.Slice.PartMut.{put_mid}
use lib.Dec.{ltb}
use lib.Ieee.{Float}
use lib.ListN.{length, take, drop, get_or, set, length-append, length-map, length-drop}
use lib.Pow.{pow_pos, pow_mono}
use lib.Seq.{length-take-le, drop-cons}
use Rattle.base.specs.Floats as Floats
use Rattle.base.specs.Sheets.{laid}
use Rattle.base.proofs.Cases.{cases}
use Rattle.base.proofs.Sheets.{laid_part, laid_one}
use Rattle.matchmaker.specs.Quality.{TeamState, MatchState, seated}
use Rattle.seating.specs.declared.TeamComposition.{TeamComposition}
use Rattle.seating.specs.Seating.{seats_of}
use Rattle.seating.specs.Steps.{overlaid, joined_to}
use Rattle.seating.proofs.Laws.{overlaid_fits, lent}
use Rattle.candidate.specs.Choices.{choices, ways}
use Rattle.candidate.specs.Walks.{seated_next, through, Listing, listed}
use Rattle.candidate.proofs.ChoiceLaws.{choices_count, choices_few, choices_sized}

-- ---- how many ways there are

-- one way to choose nobody
pub ways_none : (n : ℕ) → ways n 0 ≡ 1
unfolding ways
ways_none n = refl

-- no way to choose more than there are
pub ways_short : (n k : ℕ) → n < k → 0 ≡ ways n k
unfolding ways
ways_short n zero h = absurd (omega arith)
ways_short zero (suc k) h = refl
ways_short (suc n) (suc k) h = rw (← ways_short n k (omega arith), ← ways_short n (suc k) (omega arith))

-- the first is taken or left
pub ways_step : (n k : ℕ) → (k ≡ 0 → ⊥) → k ≤ n → ways n k ≡ ways (n - 1) (k - 1) + ways (n - 1) k
unfolding ways
ways_step n zero h g = absurd (h refl)
ways_step zero (suc k) h g = absurd (omega arith)
ways_step (suc n) (suc k) h g = rw (sub-one, sub-one)

-- and so are the places that each way fills
pub ways_room : (n k w : ℕ) → (k ≡ 0 → ⊥) → k ≤ n → ways n k * w ≡ ways (n - 1) (k - 1) * w + ways (n - 1) k * w
ways_room n k w h g = ap (λ (m : ℕ). m * w) (ways_step n k h g) ∙ add-mul (ways (n - 1) (k - 1)) (ways (n - 1) k) w

-- no more ways than parts of n
pub ways_pow : (n k : ℕ) → ways n k ≤ 2 ^ n
unfolding ways
ways_pow zero zero = omega arith
ways_pow zero (suc k) = omega arith
ways_pow (suc n) zero = pow_pos (suc n)
ways_pow (suc n) (suc k) = omega (arith, ways_pow n k, ways_pow n (suc k), pow-suc 2 n)

-- of 20 at most: 2^20 at most
pub ways_small : (n k : ℕ) → n ≤ 20 → ways n k ≤ 1048576
ways_small n k h = omega (arith, ways_pow n k, pow_mono h)

-- ---- one more player

-- the row from `from` on, as far as `rest`, begins with the player there
pub row_next : (q : List ℕ) (from rest : ℕ) → (rest ≡ 0 → ⊥) → from + rest ≤ length q → take rest (drop from q) ≡ get_or q from 0 ∷ take (rest - 1) (drop (from + 1) q)
row_next q from zero h g = absurd (h refl)
row_next q from (suc rest) h g = rw (sub-one, add-one, drop-cons q from 0 (omega arith))

-- and has `rest` players
pub row_length : (q : List ℕ) (from rest : ℕ) → from + rest ≤ length q → length (take rest (drop from q)) ≡ rest
row_length q from rest h = length-take-le rest (drop from q) (omega (arith, length-drop from q))

-- h players are in team A
module _ (s : TeamComposition) (m : MatchState) (p : ℕ) {h : ℕ} (e : h ≡ length m.a.players) {t : TeamState} where
  -- fewer than its size: the player joins it
  pub seat_in_a : h < s.a → t ≡ joined_to m.a p → record { a = t; b = m.b } ≡ seated_next s m p
  unfolding seated_next
  seat_in_a k f = rw (f, lt-ltb (length m.a.players) s.a (rw e at k))

  -- as many: the player joins team B
  pub seat_in_b : s.a ≤ h → t ≡ joined_to m.b p → record { a = m.a; b = t } ≡ seated_next s m p
  unfolding seated_next
  seat_in_b k f = rw (f, le-ltb (length m.a.players) s.a (rw e at k))

-- a match that is not full takes the player
pub seat_more : (s : TeamComposition) (m : MatchState) (p : ℕ) → s.a ≤ 8 → s.b ≤ 8 → length (seated m) < seats_of s → length (seated (seated_next s m p)) ≡ length (seated m) + 1
unfolding seated_next
seat_more s m p a b h =
    let l = length-append m.a.players m.b.players in
    cases (ltb (length m.a.players) s.a)
    (λ t.
    let k : length m.a.players < s.a = ltb-true (length m.a.players) s.a t in
    rw (t, lt-ltb (length m.a.players) 8 (omega arith))
    (omega (arith, l, length-append (m.a.players ++ (p ∷ [])) m.b.players, length-append m.a.players (p ∷ []))))
    (λ f.
    let k : s.a ≤ length m.a.players = ltb-false (length m.a.players) s.a f in
    rw (f, lt-ltb (length m.b.players) 8 (omega (arith, l)))
    (omega (arith, l, length-append m.a.players (m.b.players ++ (p ∷ [])), length-append m.b.players (p ∷ []))))

-- and each of the players of a choice for which it has seats
seat_all : (s : TeamComposition) (m : MatchState) (c : List ℕ) → s.a ≤ 8 → s.b ≤ 8 → length (seated m) + length c ≤ seats_of s → length (seated (foldl (seated_next s) m c)) ≡ length (seated m) + length c
seat_all s m [] a b h = omega arith
seat_all s m (p ∷ c) a b h =
    let e = seat_more s m p a b (omega arith) in
    seat_all s (seated_next s m p) c a b (omega (arith, e)) ∙ omega (arith, e)

-- ---- the walk

module _ {B : Type 0} (s : TeamComposition) (step : B → MatchState → B) where
  -- nobody is left to choose: the match itself
  pub through_none : (m : MatchState) (xs : List ℕ) (b : B) → through s step m 0 xs b ≡ step b m
  unfolding through choices
  through_none m xs b = refl

  -- too few are left: nothing
  pub through_short : (m : MatchState) (k : ℕ) (xs : List ℕ) (b : B) → length xs < k → b ≡ through s step m k xs b
  unfolding through
  through_short m k xs b h = rw (choices_few k xs h)

  -- the choices with the first player, then those without
  through_more : (m : MatchState) (k x : ℕ) (xs : List ℕ) (b : B) → through s step m (suc k) (x ∷ xs) b ≡ through s step m (suc k) xs (through s step (seated_next s m x) k xs b)
  unfolding through choices
  through_more m k x xs b =
      ap (foldl step b) (map-append (foldl (seated_next s) m) (map (λ c. x ∷ c) (choices k xs)) (choices (suc k) xs))
      ∙ foldl-append step b (map (foldl (seated_next s) m) (map (λ c. x ∷ c) (choices k xs))) (map (foldl (seated_next s) m) (choices (suc k) xs))
      ∙ ap (λ (l : List MatchState). foldl step (foldl step b l) (map (foldl (seated_next s) m) (choices (suc k) xs))) (map-map (foldl (seated_next s) m) (λ c. x ∷ c) (choices k xs))

  -- the two calls: the row's first player is seated, those behind are walked with and then without that player
  pub two_calls : (q : List ℕ) (from rest k : ℕ) (m : MatchState) (b : B) {with : MatchState} {mid end : B} → (k ≡ 0 → ⊥) → k ≤ rest → from + rest ≤ length q
      → with ≡ seated_next s m (get_or q from 0) → mid ≡ through s step with (k - 1) (take (rest - 1) (drop (from + 1) q)) b
      → end ≡ through s step m k (take (rest - 1) (drop (from + 1) q)) mid → end ≡ through s step m k (take rest (drop from q)) b
  two_calls q from rest zero m b h g f e i l = absurd (h refl)
  two_calls q from rest (suc k) m b h g f e i l =
      let z : rest ≡ 0 → ⊥ = λ n. omega arith in
      let n : suc k - 1 ≡ k = omega arith in
      l ∙ rw (i, e, n, row_next q from rest z f) (sym (through_more m k (get_or q from 0) (take (rest - 1) (drop (from + 1) q)) b))

  -- a count that each step raises by one is raised by the number of the ways
  pub through_counts : (n : B → ℕ) → ((b : B) (m : MatchState) → n (step b m) ≡ n b + 1) → (m : MatchState) (k : ℕ) (xs : List ℕ) (b : B) → n (through s step m k xs b) ≡ n b + ways (length xs) k
  unfolding through
  through_counts n one m k xs b = go b (map (foldl (seated_next s) m) (choices k xs)) ∙ simp (length-map, choices_count)
    where
      go : (b : B) (l : List MatchState) → n (foldl step b l) ≡ n b + length l
      go b [] = omega arith
      go b (x ∷ l) = go (step b x) l ∙ omega (arith, one b x)

-- ---- the two sheets

-- where the walk stops on the sheet of qualities
pub all_done : (s : TeamComposition) (m : MatchState) (k : ℕ) (q : List ℕ) (from rest : ℕ) (l : Listing) → from + rest ≤ length q → (through s listed m k (take rest (drop from q)) l).done ≡ l.done + ways rest k
all_done s m k q from rest l h = through_counts s listed (λ (x : Listing). x.done) (λ b x. refl) m k (take rest (drop from q)) l ∙ rw (row_length q from rest h)

-- and on the sheet of players
pub all_at : (s : TeamComposition) (m : MatchState) (k : ℕ) (q : List ℕ) (from rest : ℕ) (l : Listing) → s.a ≤ 8 → s.b ≤ 8 → length (seated m) + k ≡ seats_of s → from + rest ≤ length q → (through s listed m k (take rest (drop from q)) l).at ≡ l.at + ways rest k * seats_of s
unfolding through
all_at s m k q from rest l a b e h =
    let xs = take rest (drop from q) in
    go (choices k xs) l (λ c i. choices_sized k xs c i) ∙ rw (choices_count, row_length q from rest h)
  where
    go : (cs : List (List ℕ)) (l : Listing) → ((c : List ℕ) → Memᴰ c cs → length c ≡ k) → (foldl listed l (map (foldl (seated_next s) m) cs)).at ≡ l.at + length cs * seats_of s
    go [] l i = omega (arith, zero-mul (seats_of s))
    go (c ∷ cs) l i =
        let n = i c (Memᴰ.head refl) in
        let f = seat_all s m c a b (omega arith) in
        go cs (listed l (foldl (seated_next s) m c)) (λ c' j. i c' (Memᴰ.tail j)) ∙ omega (arith, f, n, suc-mul (length cs) (seats_of s))

-- a match written into the part from `at` on, and its quality, are the match listed
pub one_listed : (s : TeamComposition) (m : MatchState) (xs : List ℕ) (players : List ℕ) (qualities : List Float) (at done n : ℕ) {last : List ℕ} → at + length (seated m) ≤ length players → done < length qualities
    → last ≡ overlaid (seated m) (take (length players - at) (drop at players)) → n ≡ length (seated m)
    → ◌≡◌ {A = Listing} (record { players = put_mid at (length players - at) players last; qualities = set qualities done Floats.zero; at = at + n; done = done + 1 }) (through s listed m 0 xs (record { players = players; qualities = qualities; at = at; done = done }))
one_listed s m xs players qualities at done n {last} h g e f =
    let p : put_mid at (length players - at) players last ≡ laid players at (seated m) =
    lent players at (seated m) e
    ∙ ap (λ (l : List ℕ). take at players ++ l) (overlaid_fits (seated m) (drop at players) (omega (arith, length-drop at players)))
    ∙ laid_part players at (seated m) in
    rw (p, laid_one qualities done Floats.zero g, f) (sym (through_none s listed m xs (record { players = players; qualities = qualities; at = at; done = done })))
