-- The sums grow with a choice and give its score, and a choice that scores lower than the best of many is idle.
use Prim.Native.Nat.{ℕ, ◌+◌, ◌≤◌, ◌<◌}
use mathlib.Core.Path.{◌≡◌, refl, sym, ap, ◌∙◌}
use mathlib.Core.Bool.{Bool, true, false, cond, ◌&&◌, ◌||◌}
use mathlib.Core.List.{List, [], ◌∷◌, ◌++◌, append-nil, append_assoc}
use Rattle.std.specs.Prelude.{Option, None, Some, is_some, unwrap_or}
use native.Mathlib.Omega.{arith}
use borrow.Author.Tests.{lt-ltb, ltb-true, ltb-false}
use lib.Dec.{ltb}
use lib.Ieee.{Float, nan, inf, fin, binary64, add, lt, is_nan}
use lib.ListN.{length, get_or, length-append}
use Rattle.base.specs.Floats as Floats
use Rattle.base.proofs.Cases.{cases, never, pick}
use Rattle.queue.specs.declared.QueueEntry.{QueueEntry}
use Rattle.roster.specs.Roster.{Roster, rating_of}
use Rattle.matchmaker.specs.Quality.{MatchState, seated, observations, sum_of}
use Rattle.matchmaker.specs.Steps.{absorb}
use Rattle.matchmaker.proofs.Laws.{sum_snoc}
use Rattle.objective.specs.declared.soft.SoftObjective.{SoftObjective}
use Rattle.objective.specs.Soft.{soft_score_of}
use Rattle.seating.specs.declared.TeamComposition.{TeamComposition}
use Rattle.seating.specs.Seating.{seats_of, lineup}
use Rattle.seating.specs.Steps.{Scored}
use Rattle.candidate.specs.Walks.{seated_next}
use Rattle.candidate.proofs.Walking.{seat_more}
use Rattle.constraint.specs.declared.Constraints.{Constraints}
use Rattle.choice.specs.Full.{Terms, passes, score_in}
use Rattle.choice.specs.Reading.{Columns, Says}
use Rattle.choice.specs.Steps.{skipped, weighed}
use Rattle.choice.specs.Sums.{plus_row, no_sums, sums_with, score_by, Summing}
use Rattle.choice.specs.declared.Sums.{Sums}

-- ---- what is read once

-- a sum grows by what was observed
grown_by : (o : Option Float) (sum : Float) → plus_row (is_some o) (unwrap_or o Floats.zero) sum ≡ absorb (add binary64) sum o
grown_by None sum = refl
grown_by (Some x) sum = refl

-- a sum grows by what the columns say of a place
pub grown_read : {r : Roster} {c : Constraints} {on : Bool} {es : List QueueEntry} {x : Columns} {i p : ℕ} → Says r c on es x i p → (sum : Float)
    → plus_row (get_or x.rows i false) (get_or x.rated i nan) sum ≡ absorb (add binary64) sum (rating_of r p)
grown_read {r} {p = p} h sum = rw (h.row, h.rating) (grown_by (rating_of r p) sum)

-- ---- one more player

-- the ratings of these players together
abbrev total : Roster → List ℕ → Float
total r ps = sum_of (observations (rating_of r) ps)

module _ (r : Roster) (p : ℕ) (row : Bool) (rating : Float) (reads : (sum : Float) → plus_row row rating sum ≡ absorb (add binary64) sum (rating_of r p)) where
  -- the sum of a list of players grows by the player behind them
  total_more : (ps : List ℕ) → plus_row row rating (total r ps) ≡ total r (ps ++ (p ∷ []))
  total_more ps = reads (total r ps) ∙ sym (sum_snoc (rating_of r) Floats.zero ps p)

  -- the player joins A, and nobody is in B
  joins_a : (us vs : List ℕ) → vs ≡ [] → ◌≡◌ {A = Sums} (record { a = plus_row row rating (total r us); b = total r vs; all = plus_row row rating (total r (us ++ vs)) }) (record { a = total r (us ++ (p ∷ [])); b = total r vs; all = total r ((us ++ (p ∷ [])) ++ vs) })
  joins_a us vs e =
      let f : plus_row row rating (total r (us ++ vs)) ≡ total r ((us ++ (p ∷ [])) ++ vs) = rw (e, append-nil us, append-nil (us ++ (p ∷ []))) (total_more us) in
      λ j. record { a = total_more us j; b = total r vs; all = f j }

  -- the player joins B
  joins_b : (us vs : List ℕ) → ◌≡◌ {A = Sums} (record { a = total r us; b = plus_row row rating (total r vs); all = plus_row row rating (total r (us ++ vs)) }) (record { a = total r us; b = total r (vs ++ (p ∷ [])); all = total r (us ++ (vs ++ (p ∷ []))) })
  joins_b us vs =
      let f : plus_row row rating (total r (us ++ vs)) ≡ total r (us ++ (vs ++ (p ∷ []))) = total_more (us ++ vs) ∙ ap (total r) (append_assoc us vs (p ∷ [])) in
      λ j. record { a = total r us; b = total_more vs j; all = f j }

  -- the match with the player has the sums with the rating
  pub filling_next : (s : TeamComposition) (m : MatchState) (x : Sums) → Summing r s m x → s.a ≤ 8 → s.b ≤ 8 → length (seated m) < seats_of s → Summing r s (seated_next s m p) (sums_with x (ltb (length m.a.players) s.a) row rating)
  unfolding seated_next sums_with
  filling_next s m x fills a b h =
      let l = length-append m.a.players m.b.players in
      cases (ltb (length m.a.players) s.a)
      (λ t.
      let k : length m.a.players < s.a = ltb-true (length m.a.players) s.a t in
      let n : m.b.players ≡ [] = rw t at fills.order in
      rw (t, lt-ltb (length m.a.players) 8 (omega arith), fills.sums)
      (record {
        room = omega (arith, length-append m.a.players (p ∷ []));
        order = pick (λ (l : List ℕ). l ≡ []) (ltb (length (m.a.players ++ (p ∷ []))) s.a) n refl;
        sums = joins_a m.a.players m.b.players n;
      }))
      (λ f.
      let k : s.a ≤ length m.a.players = ltb-false (length m.a.players) s.a f in
      rw (f, lt-ltb (length m.b.players) 8 (omega (arith, l)), fills.sums)
      (record { room = fills.room; order = rw f; sums = joins_b m.a.players m.b.players }))

  -- and so have what the calls made of them
  pub filling_with : (s : TeamComposition) (m : MatchState) (x : Sums) {first : Bool} {with : MatchState} {next : Sums} → Summing r s m x → s.a ≤ 8 → s.b ≤ 8 → length (seated m) < seats_of s
      → first ≡ ltb (length m.a.players) s.a → with ≡ seated_next s m p → next ≡ sums_with x first row rating → Summing r s with next
  filling_with s m x fills a b h e f g = rw (f, g, e) (filling_next s m x fills a b h)

-- nobody is seated
filling_none : (r : Roster) (s : TeamComposition) → Summing r s (lineup [] []) no_sums
unfolding observations
filling_none r s = record { room = omega arith; order = pick (λ (l : List ℕ). l ≡ []) (ltb 0 s.a) refl refl; sums = refl }

pub filling_start : (r : Roster) (s : TeamComposition) {m : MatchState} {x : Sums} → m ≡ lineup [] [] → x ≡ no_sums → Summing r s m x
filling_start r s e f = rw (e, f) (filling_none r s)

-- ---- the score

-- a match that is full has teams of the two sizes
pub full : (r : Roster) (s : TeamComposition) (m : MatchState) (x : Sums) → Summing r s m x → length (seated m) ≡ seats_of s → (length m.a.players ≡ s.a) × (length m.b.players ≡ s.b)
full r s m x fills e =
    let l = length-append m.a.players m.b.players in
    cases (ltb (length m.a.players) s.a)
    (λ t.
    let k : length m.a.players < s.a = ltb-true (length m.a.players) s.a t in
    let n : m.b.players ≡ [] = rw t at fills.order in
    let z : length m.b.players ≡ 0 = ap length n in
    absurd (omega (arith, l, e, k, z)))
    (λ f.
    let k : s.a ≤ length m.a.players = ltb-false (length m.a.players) s.a f in
    (omega (arith, k, fills.room), omega (arith, l, e, k, fills.room)))

-- its score is that of its sums
pub full_score : (r : Roster) (s : TeamComposition) (m : MatchState) (x : Sums) (objectives : List SoftObjective) → Summing r s m x → length (seated m) ≡ seats_of s → score_by objectives x s.a s.b ≡ soft_score_of r m objectives
unfolding score_by
full_score r s m x objectives fills e =
    let f = full r s m x fills e in
    rw (fills.sums, ← f.0, ← f.1, length-append m.a.players m.b.players)

-- the score of a choice by the sums with its last player
pub last_score : (r : Roster) (s : TeamComposition) (m : MatchState) (x : Sums) (p : ℕ) (objectives : List SoftObjective) (row first : Bool) (rating : Float) → ((sum : Float) → plus_row row rating sum ≡ absorb (add binary64) sum (rating_of r p)) → Summing r s m x → s.a ≤ 8 → s.b ≤ 8
    → length (seated m) + 1 ≡ seats_of s → first ≡ ltb (length m.a.players) s.a → score_by objectives (sums_with x first row rating) s.a s.b ≡ soft_score_of r (seated_next s m p) objectives
last_score r s m x p objectives row first rating reads fills a b h e =
    let k : length (seated m) < seats_of s = omega arith in
    rw e
    (full_score r s (seated_next s m p) (sums_with x (ltb (length m.a.players) s.a) row rating) objectives (filling_next r p row rating reads s m x fills a b k)
    (seat_more s m p a b k ∙ h))

-- ---- idle choices

-- what is lower than something is a number
lower_number : (x y : Float) → lt x y ≡ true → is_nan x ≡ false
unfolding lt is_nan
lower_number nan y h = never cc
lower_number (inf s) y h = refl
lower_number (fin s m e) y h = refl

or_not : (a : Bool) {b : Bool} → b ≡ false → (a || b) ≡ a
or_not true e = refl
or_not false e = e

-- two or more passed, and the best of them scores higher than m: m is only counted, whether it passes or not
pub idle_skipped : (t : Terms) (es : List QueueEntry) (m : MatchState) (tried : ℕ) (found many bad : Bool) (p : Scored) {score : Float} {idle : Bool} → score ≡ score_in t m → idle ≡ (found && (many && lt score p.score)) → idle ≡ true
    → skipped (record { tried = tried; best = cond found (Some p) None; many = many; nan = bad }) ≡ weighed t es (record { tried = tried; best = cond found (Some p) None; many = many; nan = bad }) m
unfolding weighed
idle_skipped t es m tried false many bad p e i h = never cc
idle_skipped t es m tried true false bad p e i h = never cc
idle_skipped t es m tried true true bad p {score} e i h =
    let l : lt (score_in t m) p.score ≡ true = rw e at (sym i ∙ h) in
    let n = or_not bad (lower_number (score_in t m) p.score l) in
    cases (passes t es m) (λ y. rw (y, l, n)) (λ f. rw f)
