-- Choices that are idle are only counted.
use Prim.Native.Nat.{ℕ, zero, suc, ◌+◌, ◌≤◌, ◌<◌}
use mathlib.Core.Path.{◌≡◌, refl, sym, ap, ◌∙◌}
use mathlib.Core.Bool.{Bool, true, false, not, cond}
use mathlib.Core.List.{List, [], ◌∷◌}
use Rattle.std.specs.Prelude.{None, Some}
use native.Mathlib.Omega.{arith}
use borrow.Author.Tests.{not-true, not-false, lt-ltb, le-ltb, ltb-true, ltb-false}
use lib.Dec.{ltb}
use lib.Ieee.{nan}
use lib.ListN.{length, take, drop, get_or, length-take, length-append}
use Rattle.base.proofs.Cases.{cases}
use Rattle.base.proofs.Checks.{both_hold}
use Rattle.queue.specs.declared.QueueEntry.{QueueEntry}
use Rattle.roster.specs.Roster.{Roster}
use Rattle.matchmaker.specs.Quality.{MatchState, seated}
use Rattle.seating.specs.declared.TeamComposition.{TeamComposition}
use Rattle.seating.specs.Seating.{seats_of}
use Rattle.seating.specs.Steps.{Scored}
use Rattle.candidate.specs.Walks.{seated_next, through}
use Rattle.candidate.proofs.Walking.{through_short}
use Rattle.constraint.specs.declared.Constraints.{Constraints}
use Rattle.objective.specs.declared.soft.SoftObjective.{SoftObjective}
use Rattle.choice.specs.Full.{Terms, terms}
use Rattle.choice.specs.Steps.{SoFar, skipped, weighed}
use Rattle.choice.specs.Reading.{Columns, StandFor}
use Rattle.choice.specs.Sums.{Summing, idle_at, idle_from}
use Rattle.choice.specs.declared.Sums.{Sums}
use Rattle.choice.specs.declared.tally.Bounds.{Bounds}
use Rattle.choice.proofs.Summing.{grown_read, last_score, idle_skipped}
use Rattle.choice.proofs.Lasting.{last_next}

-- ---- are_idle

module _ (f : ℕ → Bool) (at n : ℕ) {left : ℕ} {v x : Bool} (inv : idle_from f at left ≡ v) (more : left ≡ suc n) (w : x ≡ f at) where
  -- the next is not idle
  pub idle_not : not x ≡ true → false ≡ v
  unfolding idle_from
  idle_not y = rw (more, sym w ∙ not-true x y) at inv

  -- the next is idle
  pub idle_on : not x ≡ false → idle_from f (at + 1) n ≡ v
  unfolding idle_from
  idle_on y = rw (more, sym w ∙ not-false x y) at inv

-- ---- what idle choices leave

module _ (t : Terms) (es : List QueueEntry) (s : TeamComposition) (q : List ℕ) (m : MatchState) (f : ℕ → Bool) (found many bad : Bool) (p : Scored) where
  -- the best so far when so many were tried
  abbrev kept : ℕ → SoFar
  kept tried = record { tried = tried; best = cond found (Some p) None; many = many; nan = bad }

  -- choices that are each idle are only counted
  pub all_idle : (last : ℕ) → last ≤ length q → ((i tried : ℕ) → i < last → f i ≡ true → skipped (kept tried) ≡ weighed t es (kept tried) (seated_next s m (get_or q i 0))) → (n at tried : ℕ) → at + n ≤ last → idle_from f at n ≡ true
      → kept (tried + n) ≡ through s (weighed t es) m 1 (take n (drop at q)) (kept tried)
  unfolding idle_from
  all_idle last l each zero at tried h e =
      ap kept (omega arith) ∙ through_short s (weighed t es) m 1 (take 0 (drop at q)) (kept tried) (omega (arith, length-take 0 (drop at q)))
  all_idle last l each (suc n) at tried h e =
      let k = both_hold (f at) (idle_from f (at + 1) n) e in
      let g = last_next s (weighed t es) q m at (suc n) (kept tried) refl n (omega arith) (omega arith) refl (each at tried (omega arith) k.0) in
      ap kept (omega arith) ∙ all_idle last l each n (at + 1) (tried + 1) (omega arith) k.1 ∙ g

-- ---- the next player but one

-- joins A where A is short by two
pub short_by_two : (s : TeamComposition) (m : MatchState) (p : ℕ) → s.a ≤ 8 → ltb (length m.a.players + 1) s.a ≡ ltb (length (seated_next s m p).a.players) s.a
unfolding seated_next
short_by_two s m p a =
    cases (ltb (length m.a.players) s.a)
    (λ t.
    let k : length m.a.players < s.a = ltb-true (length m.a.players) s.a t in
    rw (t, lt-ltb (length m.a.players) 8 (omega arith), length-append m.a.players (p ∷ [])))
    (λ f.
    let k : s.a ≤ length m.a.players = ltb-false (length m.a.players) s.a f in
    rw (f, f) (le-ltb (length m.a.players + 1) s.a (omega arith)))

-- ---- seat_two

-- the choices with the player at a place, whose last seats are all idle
module _ (r : Roster) (c : Constraints) (on : Bool) (es : List QueueEntry) (x : Columns) (b : Bounds) (stands : StandFor r c on es x b) (objectives : List SoftObjective) (count : ℕ) (s : TeamComposition) (in-a : s.a ≤ 8) (in_b : s.b ≤ 8) where
  pub two_idle : (m : MatchState) (sums : Sums) (first found many bad : Bool) (p : Scored) (at k tried : ℕ) {idle : Bool}
      → Summing r s m sums → length (seated m) + 1 ≡ seats_of s → first ≡ ltb (length m.a.players) s.a
      → at + k ≤ length es → at + k ≤ length x.queued → idle ≡ idle_from (idle_at (take count objectives) s x.rows x.rated sums first found many p.score) at k → idle ≡ true
      → ◌≡◌ {A = SoFar} (record { tried = tried + k; best = cond found (Some p) None; many = many; nan = bad })
      (through s (weighed (terms r c on objectives count) es) m 1 (take k (drop at x.queued)) (record { tried = tried; best = cond found (Some p) None; many = many; nan = bad }))
  two_idle m sums first found many bad p at k tried fills h e g l i j =
      let t = terms r c on objectives count in
      let q = x.queued in
      all_idle t es s q m (idle_at (take count objectives) s x.rows x.rated sums first found many p.score) found many bad p (at + k) l
      (λ y tr w z.
      idle_skipped t es (seated_next s m (get_or q y 0)) tr found many bad p
      (last_score r s m sums (get_or q y 0) (take count objectives) (get_or x.rows y false) first (get_or x.rated y nan) (grown_read (stands.says y (omega arith))) fills in-a in_b h e) refl z)
      k at tried (omega arith) (sym i ∙ j)
