-- Laws of the nearest generator over plain lists: what is read, how many matches there are and who sits in them, and the order of
-- places against that of entries.
use Prim.Native.Nat.{ℕ, zero, suc, ◌+◌, ◌-◌, ◌*◌, ◌/◌, ◌%◌, ◌≤◌, ◌<◌, min}
use mathlib.Core.Path.{◌≡◌, refl, sym, ap, ◌∙◌}
use mathlib.Core.Bool.{Bool, true, false, cond, ◌||◌}
use mathlib.Core.List.{List, [], ◌∷◌, ◌++◌, map, map-map, map-append}
use Rattle.std.specs.Prelude.{unwrap_or, Result, Ok, Err}
use native.Mathlib.Nat.{le_of_suc-le-suc, not-suc-le-zero, suc-mul, mul-le-mul_right}
use native.Mathlib.Numerals.{add-one}
use native.Mathlib.Omega.{arith}
use Rattle.std.proofs.lemmas.Nat.{div-mul-add, div-add-mod', div_below}
use borrow.Author.Tests.{lt-ltb, le-ltb, ltb-true, ltb-false, eq-eqb, ne_eqb}
use lib.Dec.{ltb, eqb}
use lib.Ieee.{Float}
use lib.ListN.{length, take, drop, get_or, replicate, length-map, length-drop, length-append, length-take, length-replicate, get_or-map}
use lib.Seq.{length-take-le, take_all, take-nil, take-take, take-add, take_at, get_or-take}
use borrow.Rule.Slice.PartMut.{put_mid}
use Rattle.base.specs.declared.Refusal.{Refusal}
use Rattle.base.specs.Floats as Floats
use Rattle.base.specs.Lists.{any, All, places_from}
use Rattle.base.specs.Refusals.{Outcome, refused, gives, guarded, refusal_number, outcome_of}
use Rattle.base.specs.Ranking.{unrankable, lower, sort_by}
use Rattle.base.specs.Sheets.{laid}
use Rattle.base.proofs.Arrays.{take_map}
use Rattle.base.proofs.Cases.{cases, never}
use Rattle.base.proofs.All.{all_take}
use Rattle.base.proofs.Places.{listed_places}
use Rattle.base.proofs.Sorting.{sort_map}
use Rattle.queue.specs.declared.QueueEntry.{QueueEntry}
use Rattle.queue.specs.Queue.{QueueState, joined_over}
use Rattle.queue.specs.Columns.{no_entry}
use Rattle.roster.specs.Roster.{Roster, of_ratings, ratings_check, row_of}
use Rattle.roster.specs.Rows.{found_rows, value_at}
use Rattle.roster.proofs.Laws.{passed_even, even_first, value_observed}
use Rattle.matchmaker.specs.Quality.{MatchState, seated}
use Rattle.ranking.specs.declared.Ranked.{Ranked}
use Rattle.ranking.specs.declared.Ascent.{Ascent}
use Rattle.ranking.specs.Order.{ranked_score, numbered, ascent_of, rising_rule}
use Rattle.ranking.proofs.Turning.{length_rising_places, rising_places_below, not_risen}
use Rattle.ranking.proofs.Places.{places, ranked_at, sorted_places}
use Rattle.seating.specs.declared.TeamComposition.{TeamComposition}
use Rattle.seating.specs.Seating.{Sheets, sizes_over, are_short, seats_of, seats}
use Rattle.seating.specs.Searching.{search_check}
use Rattle.seating.specs.Steps.{overlaid}
use Rattle.seating.proofs.Handing.{handed_refused, handed_on, handed_out_lem}
use Rattle.seating.proofs.Laws.{lent_second, length_seats}
use Rattle.candidate.specs.Nearest.{thousand, rating_for, rising, chunks, nearest_matches, cannot_rank, nearest_rule, rating_by}
use Rattle.candidate.specs.Steps.{how_many}
use Rattle.candidate.proofs.Chunks.{consecutive, exact, length_rising, matches_fit, seats_fit}

-- ---- what is read

-- the rows of the players, behind a check that passed
rows_front : (ids players sheet : List ℕ) (o : Outcome Unit) {rows : List ℕ} → o ≡ gives tt → rows ≡ found_rows o ids players sheet → length players ≤ length sheet → take (length players) rows ≡ map (λ p. row_of p ids) players
unfolding laid
rows_front ids players sheet o p e room =
    let f : ℕ → ℕ = λ x. row_of x ids in
    let m : length (map f players) ≡ length players = length-map players f in
    let w : take (length sheet) (map f players) ≡ map f players = take_all (length sheet) (map f players) (omega arith) in
    ap (take (length players)) (e ∙ ap (λ (q : Outcome Unit). found_rows q ids players sheet) p ∙ ap (λ (r : List ℕ). r ++ drop (0 + length r) sheet) w)
    ∙ take_at (map f players) _ (length players) m

-- a roster that passes has as many ratings as rows
even : (ids : List ℕ) (ratings : List Float) → ratings_check (of_ratings ids ratings) ≡ gives tt → length ratings ≡ length ids
even ids ratings e =
    (even_first (length ids) (length ratings) [] (passed_even ids (length ratings ∷ []) [] (Ok tt) refl (sym e))).0

-- the rating in a row, or 1000.0
abbrev pub rating_in : List Float → ℕ → Float
rating_in ratings row = unwrap_or (value_at ratings row) thousand

-- what is read in the players' rows are their ratings
read : (ids : List ℕ) (ratings : List Float) (ps : List ℕ) → length ratings ≡ length ids → map (rating_in ratings) (map (λ p. row_of p ids) ps) ≡ map (rating_by (of_ratings ids ratings)) ps
read ids ratings [] l = refl
read ids ratings (p ∷ ps) l = rw (value_observed p ids ratings l, read ids ratings ps l)

-- the ratings in the rows that were found are those of the players
pub ratings_read : (ids players sheet : List ℕ) (ratings : List Float) {rows : List ℕ} → ratings_check (of_ratings ids ratings) ≡ gives tt → rows ≡ found_rows (ratings_check (of_ratings ids ratings)) ids players sheet → length players ≤ length sheet → map (rating_in ratings) (take (length players) rows) ≡ map (rating_by (of_ratings ids ratings)) players
ratings_read ids players sheet ratings p e room =
    ap (map (rating_in ratings)) (rows_front ids players sheet (ratings_check (of_ratings ids ratings)) p e room)
    ∙ read ids ratings players (even ids ratings p)

-- ---- how many matches

-- as many as n players fill, at most the limit
pub many_divided : (size limit n : ℕ) → 0 < size → min (n / size) limit ≡ how_many size limit n
unfolding how_many
many_divided size zero n h = omega arith
many_divided size (suc k) n h =
    cases (ltb n size)
    (λ t.
    let z : n / size ≡ 0 = let b = div_below n size 1 h (omega (arith, ltb-true n size t)) in omega arith in
    rw (t, z) (omega arith))
    (λ f.
    let q = (n - size) / size in
    let r = (n - size) % size in
    let e : q * size + r ≡ n - size = div-add-mod' (n - size) size in
    let l : size ≤ n = ltb-false n size f in
    let m : r < size = omega arith in
    let g : suc q * size + r ≡ n = omega (arith, suc-mul q size) in
    let d : n / size ≡ suc q = ap (λ (j : ℕ). j / size) (sym g) ∙ div-mul-add (suc q) size r m in
    let i = many_divided size k (n - size) h in
    rw (f, d) (omega arith))

-- ---- the matches, laid one behind another

module _ (s : TeamComposition) where
  -- as many matches are cut
  pub chunks_many : (k : ℕ) (ps : List ℕ) → length (chunks s k ps) ≡ how_many (seats_of s) k (length ps)
  unfolding chunks how_many
  chunks_many zero ps = refl
  chunks_many (suc k) ps =
      cases (ltb (length ps) (seats_of s)) (λ t. rw t)
      (λ f. rw f (ap suc (chunks_many k (drop (seats_of s) ps) ∙ ap (how_many (seats_of s) k) (length-drop (seats_of s) ps))))

  -- each seats as many, so all seat so many
  pub seats_many : (k : ℕ) (ps : List ℕ) → length (seats (chunks s k ps)) ≡ how_many (seats_of s) k (length ps) * seats_of s
  seats_many k ps = length_seats (seats_of s) (chunks s k ps) (filled (chunks s k ps) (exact s k ps)) ∙ ap (λ (n : ℕ). n * seats_of s) (chunks_many k ps)
    where
      filled : (ms : List MatchState) → All (λ (m : MatchState). (length m.a.players ≡ s.a) × (length m.b.players ≡ s.b)) ms → All (λ (m : MatchState). length (seated m) ≡ seats_of s) ms
      filled [] a = tt
      filled (m ∷ ms) a = (length-append m.a.players m.b.players ∙ rw (a.0.0, a.0.1), filled ms a.1)

  -- and they are the first of the row
  pub seats_front : (k : ℕ) (ps : List ℕ) → seats (chunks s k ps) ≡ take (how_many (seats_of s) k (length ps) * seats_of s) ps
  seats_front k ps =
      let row = seats (chunks s k ps) in
      sym (take_at row (drop (length row) ps) (length row) refl) ∙ ap (take (length row)) (consecutive s k ps) ∙ ap (λ (n : ℕ). take n ps) (seats_many k ps)

  -- no more are seated than wait
  pub many_fit : (k n : ℕ) → how_many (seats_of s) k n * seats_of s ≤ n
  many_fit k n =
      let ps : List ℕ = replicate n 0 in
      let l : length ps ≡ n = length-replicate n 0 in
      let e : length (seats (chunks s k ps)) ≡ how_many (seats_of s) k n * seats_of s = seats_many k ps ∙ ap (λ (j : ℕ). how_many (seats_of s) k j * seats_of s) l in
      omega (arith, e, seats_fit s k ps)

  -- nothing is cut from fewer than a match seats
  chunks_short : (k : ℕ) (ps : List ℕ) → length ps < seats_of s → chunks s k ps ≡ []
  unfolding chunks
  chunks_short zero ps h = refl
  chunks_short (suc k) ps h = rw (lt-ltb (length ps) (seats_of s) h)

-- ---- players written in the order of their places

-- the players at the first n places
abbrev pub at_places : List ℕ → List ℕ → ℕ → List ℕ
at_places ws places n = map (λ p. get_or ws p 0) (take n places)

-- what holds of the first n holds of a part of them
pub all_part : {A : Type 0} (P : A → Type 0) (at k n : ℕ) (xs : List A) → at + k ≤ n → All P (take n xs) → All P (take k (drop at xs))
all_part P zero k n xs h a = rw (← take-take k n xs (omega arith)) (all_take P k (take n xs) a)
all_part P (suc at) k n [] h a = rw (take-nil k) tt
all_part P (suc at) k zero (x ∷ xs) h a = absurd (omega arith)
all_part P (suc at) k (suc n) (x ∷ xs) h a = all_part P at k n xs (omega arith) a.1

-- a match more, in the part that was lent behind the matches so far
pub match_on : (ws places : List ℕ) (at seats : ℕ) (sheet now : List ℕ) {l : List ℕ} → at ≤ length places → at ≤ length sheet → now ≡ overlaid (at_places ws places at) sheet → l ≡ overlaid (at_places ws (drop at places) seats) (take (length now - at) (drop at now)) → put_mid at (length now - at) now l ≡ overlaid (at_places ws places (at + seats)) sheet
match_on ws places at seats sheet now fits room inv h =
    let f : ℕ → ℕ = λ p. get_or ws p 0 in
    let n : length (at_places ws places at) ≡ at = length-map (take at places) f ∙ length-take-le at places fits in
    let e : at_places ws places at ++ at_places ws (drop at places) seats ≡ at_places ws places (at + seats) =
    sym (map-append f (take at places) (take seats (drop at places))) ∙ ap (map f) (sym (take-add at seats places)) in
    lent_second (at_places ws places at) (at_places ws (drop at places) seats) sheet at (omega (arith, n)) inv h ∙ ap (λ (r : List ℕ). overlaid r sheet) e

-- the matches so far and one more seat no more than all
pub match_fits : (count seats i : ℕ) → i < count → i * seats + seats ≤ count * seats
match_fits count seats i h = let e = mul-le-mul_right seats h in omega (arith, e, suc-mul i seats)

-- and they are one match more
pub match_counts : (seats i at : ℕ) → at ≡ i * seats → at + seats ≡ (i + 1) * seats
match_counts seats i at e = rw (e, add-one i) (sym (suc-mul i seats))

-- ---- the order of places, and that of entries

-- the player at a place
abbrev player_at : List QueueEntry → ℕ → ℕ
player_at entries at = (get_or entries at no_entry).player

-- the players at the places of the rising ratings are the players of the entries by rising rating
pub players_rise : (f : QueueEntry → Float) (q : List QueueEntry) → map (λ (x : Ranked). player_at q x.place) (sort_by (lower ranked_score) (numbered 0 (map f q))) ≡ map (λ (e : QueueEntry). e.player) (sort_by (lower f) q)
players_rise f q =
    let at : ℕ → QueueEntry = λ p. get_or q p no_entry in
    let d = f no_entry in
    let by : (ℕ → Float) → List ℕ → List ℕ = λ score ps. sort_by (lower score) ps in
    let c : ◌≡◌ {A = ℕ → Float} (λ p. get_or (map f q) p d) (λ p. f (at p)) = λ i p. get_or-map f q p no_entry i in
    let l : places (map f q) ≡ places q = ap (places_from 0) (length-map q f) in
    let one : map (λ (x : Ranked). player_at q x.place) (sort_by (lower ranked_score) (numbered 0 (map f q))) ≡ map (player_at q) (by (λ p. f (at p)) (places q)) =
    ap (map (λ (x : Ranked). player_at q x.place)) (sorted_places d (lower ranked_score) (map f q))
    ∙ map-map (λ (x : Ranked). player_at q x.place) (ranked_at d (map f q)) (by (λ p. get_or (map f q) p d) (places (map f q)))
    ∙ ap (λ (ps : List ℕ). map (player_at q) (by (λ p. get_or (map f q) p d) ps)) l
    ∙ ap (λ (score : ℕ → Float). map (player_at q) (by score (places q))) c in
    let two : sort_by (lower f) q ≡ map at (by (λ p. f (at p)) (places q)) =
    ap (sort_by (lower f)) (listed_places no_entry q 0 (length q) (omega arith)) ∙ sort_map at (lower f) (places q) in
    one ∙ sym (ap (map (λ (e : QueueEntry). e.player)) two ∙ map-map (λ (e : QueueEntry). e.player) at (by (λ p. f (at p)) (places q)))

-- ---- the answer

-- the ratings of the entries are those of their players
same_ratings : (r : Roster) (es : List QueueEntry) (n : ℕ) {ws : List ℕ} → ws ≡ map (λ e. e.player) es → map (rating_by r) (take n ws) ≡ map (rating_for r) (take n es)
same_ratings r es n e =
    ap (λ (ws : List ℕ). map (rating_by r) (take n ws)) e ∙ ap (map (rating_by r)) (take_map (λ (x : QueueEntry). x.player) n es)
    ∙ map-map (rating_by r) (λ (x : QueueEntry). x.player) (take n es)

-- what an order of the players by rating, or its refusal, says of the entries
module _ (r : Roster) (es : List QueueEntry) (n : ℕ) (o : Result Ascent Refusal) {ws : List ℕ} (w : ws ≡ map (λ e. e.player) es) (h : ascent_of o ≡ rising_rule (map (rating_by r) (take n ws))) where
  pub order_refused : {x : Refusal} → o ≡ Err x → refused (refusal_number x) ≡ rising_rule (map (rating_for r) (take n es))
  order_refused e = ap ascent_of (sym e) ∙ h ∙ ap rising_rule (same_ratings r es n w)

  pub order_given : {a : Ascent} → o ≡ Ok a → gives (take a.len a.places) ≡ rising_rule (map (rating_for r) (take n es))
  order_given e = ap ascent_of (sym e) ∙ h ∙ ap rising_rule (same_ratings r es n w)

-- the first k of an order's places hold the first k of the players by rising rating
pub seated_row : (r : Roster) (es : List QueueEntry) (n k len : ℕ) (places : List ℕ) {ws : List ℕ} → n ≤ length es → k ≤ n → ws ≡ map (λ e. e.player) es → take len places ≡ map (λ (x : Ranked). x.place) (sort_by (lower ranked_score) (numbered 0 (map (rating_for r) (take n es)))) → (All (λ p. p < n) (take k places)) × (map (λ p. get_or ws p 0) (take k places) ≡ take k (map (λ (e : QueueEntry). e.player) (rising r (take n es))))
seated_row r es n k len places {ws} fits h w e =
    let q = take n es in
    let f = rating_for r in
    let order = map (λ (x : Ranked). x.place) (sort_by (lower ranked_score) (numbered 0 (map f q))) in
    let lq : length q ≡ n = length-take-le n es fits in
    let lf : length (map f q) ≡ n = length-map q f ∙ lq in
    let lo : length order ≡ n = length_rising_places (lower ranked_score) (map f q) ∙ lf in
    let kl : k ≤ len = omega (arith, h, lo, ap length e, length-take len places) in
    let p : take k places ≡ take k order = sym (take-take k len places kl) ∙ ap (take k) e in
    let b : All (λ i. i < n) order = rw lf at (rising_places_below (lower ranked_score) (map f q)) in
    let a : All (λ i. i < n) (take k order) = all_take (λ i. i < n) k order b in
    let g : map (λ i. get_or ws i 0) order ≡ map (λ i. player_at q i) order =
    ap (λ (v : List ℕ). map (λ i. get_or v i 0) order) w ∙ same_players es n order b in
    let x : map (λ i. player_at q i) order ≡ map (λ (e : QueueEntry). e.player) (rising r q) =
    map-map (λ i. player_at q i) (λ (y : Ranked). y.place) (sort_by (lower ranked_score) (numbered 0 (map f q))) ∙ players_rise f q in
    (rw p a, rw p (sym (take_map (λ i. get_or ws i 0) k order) ∙ ap (take k) (g ∙ x)))
  where
    same_players : (es : List QueueEntry) (n : ℕ) (ps : List ℕ) → All (λ i. i < n) ps → map (λ i. get_or (map (λ (e : QueueEntry). e.player) es) i 0) ps ≡ map (λ i. (get_or (take n es) i no_entry).player) ps
    same_players es n [] a = refl
    same_players es n (p ∷ ps) a =
        rw (get_or-map (λ (e : QueueEntry). e.player) es p no_entry, get_or-take n es p no_entry a.0, same_players es n ps a.1)

-- as many zeros as there are matches
blank : {A : Type 0} (x : Float) (ms : List A) (k : ℕ) → length ms ≤ k → take (length ms) (replicate k x) ≡ map (λ (m : A). x) ms
blank x [] k h = refl
blank x (m ∷ ms) zero h = absurd (not-suc-le-zero h)
blank x (m ∷ ms) (suc k) h = ap (λ (l : List Float). x ∷ l) (blank x ms k (le_of_suc-le-suc h))

-- a check that passes has passed the roster
roster_passing : (t : Bool) (o : Outcome Unit) (rest : Outcome Unit) → ◌≡◌ {A = Outcome Unit} (gives tt) (cond t (refused 1) (guarded o rest)) → o ≡ gives tt
roster_passing true o rest h = never cc
roster_passing false (refused n) rest h = never cc
roster_passing false (gives v) rest h = refl

pub passed_roster : (s : TeamComposition) (r : Roster) (q : QueueState) (players qualities : ℕ) (k : Result Unit Refusal) → k ≡ Ok tt → outcome_of k ≡ search_check s r q players qualities → ratings_check r ≡ gives tt
passed_roster s r q players qualities k e h =
    let p : gives tt ≡ search_check s r q players qualities = rw e at h in
    roster_passing (ltb 64 q.size || sizes_over s) (ratings_check r) (cond (are_short players qualities) (refused 3) (cond (any joined_over q.entries) (refused 4) (gives tt))) p

module _ (limit : ℕ) (s : TeamComposition) (r : Roster) (q : QueueState) (sheets : Sheets) (k : Result Unit Refusal) (h : outcome_of k ≡ search_check s r q (length sheets.players) (length sheets.qualities)) where
  -- what comes behind the check
  abbrev behind : Outcome (List MatchState)
  behind = cond (eqb (seats_of s) 0) (refused 12) (cond (cannot_rank s r q.entries) (refused 5) (gives (nearest_matches limit s r q.entries)))

  -- a refusal of the check
  pub nearest_refused : {x : Refusal} → k ≡ Err x → record { answer = refused (refusal_number x); sheets = sheets } ≡ nearest_rule limit s r q sheets
  nearest_refused e = handed_refused (λ m. Floats.zero) sheets behind k h e

  -- no seats: 12
  pub nearest_seatless : k ≡ Ok tt → seats_of s ≡ 0 → record { answer = refused 12; sheets = sheets } ≡ nearest_rule limit s r q sheets
  nearest_seatless e z = handed_on (λ m. Floats.zero) sheets behind k h e (rw (eq-eqb (seats_of s) 0 z))

  module _ (e : k ≡ Ok tt) (z : seats_of s ≡ 0 → ⊥) where
    -- fewer entries than seats: none, unranked
    pub nearest_few : length q.entries < seats_of s → record { answer = gives 0; sheets = sheets } ≡ nearest_rule limit s r q sheets
    unfolding seats
    nearest_few l =
        let ps = map (λ (x : QueueEntry). x.player) (rising r q.entries) in
        let o : length ps ≡ length q.entries = length_rising r q.entries in
        let n : nearest_matches limit s r q.entries ≡ [] = chunks_short s limit ps (omega arith) in
        handed_on (λ m. Floats.zero) sheets behind k h e (rw (ne_eqb (seats_of s) 0 z, lt-ltb (length q.entries) (seats_of s) l, n))

    -- ratings that cannot be ranked: 5
    pub nearest_unranked : {x : ℕ} → seats_of s ≤ length q.entries → refused x ≡ rising_rule (map (rating_for r) q.entries) → record { answer = refused x; sheets = sheets } ≡ nearest_rule limit s r q sheets
    nearest_unranked l f =
        let u = not_risen (map (rating_for r) q.entries) f in
        handed_on (λ m. Floats.zero) sheets behind k h e (rw (ne_eqb (seats_of s) 0 z, le-ltb (length q.entries) (seats_of s) l, u.0, u.1))

    -- else the matches, with quality 0.0
    pub nearest_given : {n : ℕ} {row players : List ℕ} {qualities : List Float} → seats_of s ≤ length q.entries → unrankable (map (rating_for r) q.entries) ≡ false → n ≡ how_many (seats_of s) limit (length q.entries) → row ≡ take (n * seats_of s) (map (λ (x : QueueEntry). x.player) (rising r q.entries)) → length q.entries ≤ 64 → 64 ≤ length sheets.players → 64 ≤ length sheets.qualities → players ≡ overlaid row sheets.players → qualities ≡ overlaid (take n (replicate 64 Floats.zero)) sheets.qualities → record { answer = gives n; sheets = record { players = players; qualities = qualities } } ≡ nearest_rule limit s r q sheets
    nearest_given {n} {row} g u c t l a b p w =
        let ms = nearest_matches limit s r q.entries in
        let ps = map (λ (x : QueueEntry). x.player) (rising r q.entries) in
        let o : length ps ≡ length q.entries = length_rising r q.entries in
        let many : how_many (seats_of s) limit (length ps) ≡ n = ap (how_many (seats_of s) limit) o ∙ sym c in
        let j : n ≡ length ms = sym (chunks_many s limit ps ∙ many) in
        let i : row ≡ seats ms = t ∙ sym (seats_front s limit ps ∙ ap (λ (x : ℕ). take (x * seats_of s) ps) many) in
        let few : length ms ≤ length ps = matches_fit s (omega arith) limit ps in
        let fit : length (seats ms) ≤ length ps = seats_fit s limit ps in
        let zeros : take n (replicate 64 Floats.zero) ≡ map (λ (x : MatchState). Floats.zero) ms =
        ap (λ (x : ℕ). take x (replicate 64 Floats.zero)) j ∙ blank Floats.zero ms 64 (omega arith) in
        handed_on (λ x. Floats.zero) sheets behind k h e
        (rw (ne_eqb (seats_of s) 0 z, le-ltb (length q.entries) (seats_of s) g, u)
        (handed_out_lem (λ x. Floats.zero) sheets ms j (omega arith) (omega arith) (p ∙ ap (λ (x : List ℕ). overlaid x sheets.players) i) zeros w))
