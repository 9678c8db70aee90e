-- The loops of the walk: each takes the next player, and what is left of the row still gives the answer.
use Prim.Native.Nat.{ℕ, zero, suc, ◌+◌, ◌-◌, ◌≤◌, ◌<◌}
use mathlib.Core.Path.{◌≡◌, refl, sym, ◌∙◌}
use mathlib.Core.List.{List}
use native.Mathlib.Omega.{arith}
use lib.ListN.{length, take, drop, get_or, length-take}
use Rattle.matchmaker.specs.Quality.{MatchState}
use Rattle.seating.specs.declared.TeamComposition.{TeamComposition}
use Rattle.candidate.specs.Choices.{ways}
use Rattle.candidate.specs.Walks.{seated_next, through}
use Rattle.candidate.proofs.Walking.{through_none, through_short, two_calls}

-- there are as many ways to choose one as there are
pub ways_one : (n : ℕ) → ways n 1 ≡ n
unfolding ways
ways_one zero = refl
ways_one (suc n) = omega (arith, ways_one n)

module _ {B : Type 0} (s : TeamComposition) (step : B → MatchState → B) (q : List ℕ) (m : MatchState) (k at rest : ℕ) (b : B) {v : B} (inv : through s step m k (take rest (drop at q)) b ≡ v) where
  -- the choices with the next player were walked: those behind are left
  pub walk_next : {with : MatchState} {mid : B} (n : ℕ) → n + 1 ≡ rest → (k ≡ 0 → ⊥) → k ≤ rest → at + rest ≤ length q → with ≡ seated_next s m (get_or q at 0) → mid ≡ through s step with (k - 1) (take n (drop (at + 1) q)) b
      → through s step m k (take n (drop (at + 1) q)) mid ≡ v
  walk_next n y h g f e i =
      let z : n ≡ rest - 1 = omega arith in
      rw z (two_calls s step q at rest k m b h g f e (rw z at i) refl ∙ inv)

  -- too few are left
  pub walk_end : rest < k → b ≡ v
  walk_end h = through_short s step m k (take rest (drop at q)) b (omega (arith, length-take rest (drop at q))) ∙ inv

-- the same for the last seat: the next player fills it
pub last_next : {B : Type 0} (s : TeamComposition) (step : B → MatchState → B) (q : List ℕ) (m : MatchState) (at rest : ℕ) (b : B) {v mid : B} {full : MatchState} → through s step m 1 (take rest (drop at q)) b ≡ v → (n : ℕ) → n + 1 ≡ rest → at + rest ≤ length q → full ≡ seated_next s m (get_or q at 0) → mid ≡ step b full
    → through s step m 1 (take n (drop (at + 1) q)) mid ≡ v
last_next s step q m at rest b {full = full} inv n y g e i =
    let z : ◌≡◌ {A = ℕ} 1 0 → ⊥ = λ n. omega arith in
    walk_next s step q m 1 at rest b inv n y z (omega arith) g e (i ∙ sym (through_none s step full (take n (drop (at + 1) q)) b))
