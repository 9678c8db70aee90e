-- Everyone seated in one array, and what their rows say, found once for all.
use Rattle.std.proofs.Common.{◌≡◌, ℕ, ◌+◌, ◌-◌, ◌≤◌, List, [], ◌∷◌, ◌++◌, map, length, take, drop, sym, refl, ap, ◌∙◌, append_assoc, arith, length-append, length-take-le, take_all, take-take, take_at, drop_at}
use mathlib.Core.List.{map-append}
use lib.Ieee.{Float}
use lib.ListN.{length-map}
use lib.Seq.{take-append-add}
use Rattle.base.specs.Sheets.{laid}
use Rattle.base.proofs.Arrays.{all_held, held_fits}
use Rattle.roster.specs.Roster.{of_ratings, row_of, observe}
use Rattle.roster.specs.Rows.{value_at}
use Rattle.roster.proofs.Laws.{value_observed}
use Rattle.matchmaker.specs.Quality.{observations, quality_between, quality_of}
use Rattle.matchmaker.specs.Steps.{rows_average, rows_quality}

-- ---- a team behind the first `at` of an array

-- all its places are copied: those that the team holds stand there
pub seat_front : (players places : List ℕ) (at len : ℕ) → at ≤ length players → take (at + length (take len places)) (laid players at places) ≡ take at players ++ take len places
unfolding laid
seat_front players places at len fits =
    let n = length (take len places) in
    let m = length places in
    let k : length (take len places) ≤ length places = held_fits len places refl in
    let l : length (take at players) ≡ at = length-take-le at players fits in
    let e : length (take at players ++ places) ≡ at + length places = omega (arith, length-append (take at players) places) in
    sym (take-take (at + n) (at + m) (take at players ++ places ++ drop (at + m) players) (omega arith))
    ∙ ap (take (at + n)) (take_at (take at players ++ places) (drop (at + m) players) (at + m) e)
    ∙ ap (λ (h : ℕ). take (h + n) (take at players ++ places)) (sym l)
    ∙ take-append-add (take at players) places n
    ∙ ap (λ (r : List ℕ). take at players ++ r) (all_held len places refl)

-- team A at the front and team B behind it are everyone seated
pub seated_both : (a b z x r : List ℕ) {n : ℕ} → n ≡ length a → take (0 + length a) x ≡ take 0 z ++ a → take (n + length b) r ≡ take n x ++ b → take (length (a ++ b)) r ≡ a ++ b
seated_both a b z x r {n} e f s =
    let k : length (a ++ b) ≡ n + length b = omega (arith, e, length-append a b) in
    let j : n ≡ 0 + length a = omega (arith, e) in
    let first : take n x ≡ a = ap (λ (m : ℕ). take m x) j ∙ f in
    ap (λ (m : ℕ). take m r) k ∙ s ∙ ap (λ (l : List ℕ). l ++ b) first

-- two teams of eight places: how many the first holds, how many both, and how many the second
pub seats_fit : (x y : List ℕ) (l m : ℕ) {n k : ℕ} → length x ≡ 8 → length y ≡ 8 → n ≡ length (take l x) → k ≡ length (take l x ++ take m y) → (n ≤ 8) × (n ≤ k) × (k ≤ 16) × (k - n ≡ length (take m y))
seats_fit x y l m v w e f =
    let g = length-append (take l x) (take m y) in
    let h : length (take l x) ≤ length x = held_fits l x refl in
    let i : length (take m y) ≤ length y = held_fits m y refl in
    (omega arith, omega arith, omega arith, omega arith)

-- ---- everyone's rows on a sheet

module _ (f : ℕ → ℕ) (a b sheet : List ℕ) {rows : List ℕ} (room : length a + length b ≤ length sheet) (e : rows ≡ laid sheet 0 (take (length sheet) (map f (a ++ b)))) where
  -- the sheet begins with them
  front : rows ≡ map f (a ++ b) ++ drop (0 + length (map f (a ++ b))) sheet
  unfolding laid
  front =
      let fits : length (map f (a ++ b)) ≤ length sheet = omega (arith, length-map (a ++ b) f, length-append a b) in
      e ∙ rw (take_all (length sheet) (map f (a ++ b)) fits)

  -- all of them
  pub rows_all : take (length (a ++ b)) rows ≡ map f (a ++ b)
  rows_all = ap (take (length (a ++ b))) front ∙ take_at (map f (a ++ b)) _ (length (a ++ b)) (length-map (a ++ b) f)

  -- those of team A stand first, those of team B behind
  parted : rows ≡ map f a ++ (map f b ++ drop (0 + length (map f (a ++ b))) sheet)
  parted =
      front
      ∙ ap (λ (l : List ℕ). l ++ drop (0 + length (map f (a ++ b))) sheet) (map-append f a b)
      ∙ append_assoc (map f a) (map f b) _

  pub rows_first : take (length a) rows ≡ map f a
  rows_first = ap (take (length a)) parted ∙ take_at (map f a) _ (length a) (length-map a f)

  pub rows_second : take (length b) (drop (length a) rows) ≡ map f b
  rows_second =
      ap (λ (l : List ℕ). take (length b) (drop (length a) l)) parted
      ∙ ap (take (length b)) (drop_at (map f a) _ (length a) (length-map a f))
      ∙ take_at (map f b) _ (length b) (length-map b f)

-- ---- what the rows say

-- a column as long as the ids says in the players' rows what it says of the players
pub observed_rows : {A : Type 0} (ids : List ℕ) (column : List A) → length column ≡ length ids → (ps : List ℕ) → observations (value_at column) (map (λ p. row_of p ids) ps) ≡ observations (observe ids column) ps
unfolding observations
observed_rows ids column l [] = refl
observed_rows ids column l (p ∷ ps) = rw (value_observed p ids column l, observed_rows ids column l ps)

-- the quality of two teams whose averages by rows are known
pub rows_known : (ratings : List Float) (rows : List ℕ) (k : ℕ) {n a b : ℕ} {x y q : Float} → n ≡ a → k - n ≡ b → x ≡ rows_average ratings (take n rows) → y ≡ rows_average ratings (take (k - n) (drop n rows)) → q ≡ quality_between x y → q ≡ rows_quality ratings (take a rows) (take b (drop a rows))
rows_known ratings rows k e f x y q = rw (q, x, y, f, e)

-- the quality by the rows of two teams is their quality
pub quality_of_rows : (ids : List ℕ) (ratings : List Float) (a b : List ℕ) → length ratings ≡ length ids → {x y : List ℕ} → x ≡ map (λ p. row_of p ids) a → y ≡ map (λ p. row_of p ids) b → rows_quality ratings x y ≡ quality_of (of_ratings ids ratings) a b
quality_of_rows ids ratings a b l x y =
    rw (
      x,
      y,
      observed_rows ids ratings l a,
      observed_rows ids ratings l b,
      length-map a (λ (p : ℕ). row_of p ids),
      length-map b (λ (p : ℕ). row_of p ids),
    )
