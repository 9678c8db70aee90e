-- What the cut means: the matches are consecutive chunks of the row, each of exactly A and B players, and no more than the limit.
use Prim.Native.Nat.{ℕ, zero, suc, ◌+◌, ◌≤◌, ◌<◌}
use mathlib.Core.Path.{◌≡◌, refl, sym, ap, ◌∙◌}
use mathlib.Core.List.{List, ◌++◌, map, append_assoc}
use native.Mathlib.Nat.{le_of_suc-le-suc}
use native.Mathlib.Omega.{arith}
use borrow.Author.Tests.{ltb-true, ltb-false}
use lib.Dec.{ltb}
use lib.ListN.{length, take, drop, length-append, length-drop, length-map, take-append-drop}
use lib.Seq.{length-take-le, drop-drop, take-add}
use Rattle.base.specs.Lists.{All}
use Rattle.base.proofs.Cases.{cases}
use Rattle.base.proofs.Sorting.{permuted_length, sort_permutes}
use Rattle.queue.specs.declared.QueueEntry.{QueueEntry}
use Rattle.roster.specs.Roster.{Roster}
use Rattle.matchmaker.specs.Quality.{MatchState}
use Rattle.seating.specs.declared.TeamComposition.{TeamComposition}
use Rattle.seating.specs.Seating.{seats_of, seats}
use Rattle.candidate.specs.Nearest.{rising, chunks}

module _ (s : TeamComposition) where
  -- the matches and what is left make the row: nobody is passed over, and nobody is seated twice
  pub consecutive : (k : ℕ) (ps : List ℕ) → seats (chunks s k ps) ++ drop (length (seats (chunks s k ps))) ps ≡ ps
  unfolding chunks seats
  consecutive zero ps = refl
  consecutive (suc k) ps =
      cases (ltb (length ps) (seats_of s)) (λ t. rw t)
      (λ f.
      let n = seats_of s in
      let l : n ≤ length ps = ltb-false (length ps) n f in
      let front = take s.a ps ++ take s.b (drop s.a ps) in
      let more = seats (chunks s k (drop n ps)) in
      let e : front ≡ take n ps = sym (take-add s.a s.b ps) in
      let z : length front ≡ n = ap length e ∙ length-take-le n ps l in
      let d : drop (length (front ++ more)) ps ≡ drop (length more) (drop n ps) =
      ap (λ (i : ℕ). drop i ps) (length-append front more ∙ ap (λ (i : ℕ). i + length more) z) ∙ sym (drop-drop (length more) n ps) in
      rw f
      (ap (λ (r : List ℕ). (front ++ more) ++ r) d ∙ append_assoc front more (drop (length more) (drop n ps))
      ∙ ap (λ (r : List ℕ). front ++ r) (consecutive k (drop n ps)) ∙ ap (λ (r : List ℕ). r ++ drop n ps) e ∙ take-append-drop n ps))

  -- each match seats exactly A and B
  pub exact : (k : ℕ) (ps : List ℕ) → All (λ (m : MatchState). (length m.a.players ≡ s.a) × (length m.b.players ≡ s.b)) (chunks s k ps)
  unfolding chunks
  exact zero ps = tt
  exact (suc k) ps =
      cases (ltb (length ps) (seats_of s)) (λ t. rw t tt)
      (λ f.
      let l : seats_of s ≤ length ps = ltb-false (length ps) (seats_of s) f in
      let a : length (take s.a ps) ≡ s.a = length-take-le s.a ps (omega arith) in
      let b : length (take s.b (drop s.a ps)) ≡ s.b = length-take-le s.b (drop s.a ps) (omega (arith, length-drop s.a ps)) in
      rw f ((a, b), exact k (drop (seats_of s) ps)))

  -- there are no more matches than the limit
  pub limited : (k : ℕ) (ps : List ℕ) → length (chunks s k ps) ≤ k
  unfolding chunks
  limited zero ps = omega arith
  limited (suc k) ps =
      let i = limited k (drop (seats_of s) ps) in
      cases (ltb (length ps) (seats_of s)) (λ t. rw t (omega arith)) (λ f. rw f (omega arith))

  -- where fewer are cut, too few for one more are left
  pub exhausted : (k : ℕ) (ps : List ℕ) → length (chunks s k ps) < k → length ps < length (seats (chunks s k ps)) + seats_of s
  unfolding chunks seats
  exhausted zero ps h = absurd (omega arith)
  exhausted (suc k) ps h =
      cases (ltb (length ps) (seats_of s)) (λ t. rw t (omega (arith, ltb-true (length ps) (seats_of s) t)))
      (λ f.
      let n = seats_of s in
      let l : n ≤ length ps = ltb-false (length ps) n f in
      let i = exhausted k (drop n ps) (le_of_suc-le-suc (rw f at h)) in
      let front = take s.a ps ++ take s.b (drop s.a ps) in
      let z : length front ≡ n = ap length (sym (take-add s.a s.b ps)) ∙ length-take-le n ps l in
      rw f (omega (arith, i, z, length-append front (seats (chunks s k (drop n ps))), length-drop n ps)))

  -- no more are seated than stand in the row
  pub seats_fit : (k : ℕ) (ps : List ℕ) → length (seats (chunks s k ps)) ≤ length ps
  seats_fit k ps =
      omega (arith, ap length (consecutive k ps), length-append (seats (chunks s k ps)) (drop (length (seats (chunks s k ps))) ps))

  -- where a match has a seat, there are no more matches than stand in the row
  pub matches_fit : 0 < seats_of s → (k : ℕ) (ps : List ℕ) → length (chunks s k ps) ≤ length ps
  unfolding chunks
  matches_fit h zero ps = omega arith
  matches_fit h (suc k) ps =
      let i = matches_fit h k (drop (seats_of s) ps) in
      cases (ltb (length ps) (seats_of s)) (λ t. rw t (omega arith))
      (λ f. rw f (omega (arith, length-drop (seats_of s) ps, ltb-false (length ps) (seats_of s) f)))

-- as many players stand in the order as entries wait
pub length_rising : (r : Roster) (queue : List QueueEntry) → length (map (λ (e : QueueEntry). e.player) (rising r queue)) ≡ length queue
length_rising r queue =
    length-map (rising r queue) (λ (e : QueueEntry). e.player) ∙ sym (permuted_length (sort_permutes _ queue))
