-- Two runs over the halves of the first places find what one run over all of them finds.
use Prim.Native.Nat.{ℕ, zero, suc, ◌+◌, ◌-◌, ◌≤◌}
use mathlib.Core.Path.{◌≡◌, refl, ap, ◌∙◌}
use mathlib.Core.Bool.{false}
use mathlib.Core.List.{List}
use native.Mathlib.Nat.{add-zero, add-suc}
use native.Mathlib.Omega.{arith}
use lib.Ieee.{Float, nan, inf, fin, binary64, sub, lt}
use lib.ListN.{get_or}
use Rattle.base.specs.Lists.{times}
use Rattle.base.proofs.Cases.{cases, never}
use Rattle.base.proofs.Loops.{times_on}
use Rattle.base.proofs.Order.{lt_trans, not_lt_trans}
use Rattle.base.proofs.Equal.{lt_number}
use Rattle.greedy.specs.Steps.{Near, magnitude_of, nearer_free, nearest_free, nobody_of, nearer_from, nearer_of}

-- infinity is below nothing
last : (y : Float) → lt (inf false) y ≡ false
unfolding lt
last nan = refl
last (inf t) = refl
last (fin t n d) = refl

module _ (reference : Float) (free : List Float) where
  -- the distance of the place i
  far : ℕ → Float
  far i = magnitude_of (sub binary64 reference (get_or free i nan))

  -- the distance of the nearest so far stays no NaN
  near_some : (i : ℕ) (c : Near) → (c.distance ≡ nan → ⊥) → (nearer_free reference free i c).distance ≡ nan → ⊥
  unfolding nearer_free far
  near_some i c k =
      cases (lt (far i) c.distance)
      (λ t. rw t (lt_number (far i) c.distance t))
      (λ f. rw f k)

  -- a turn of the second run is a turn of the whole: it may come before the two are held against each other, or after
  turn_over : (i : ℕ) (b c : Near) → (c.distance ≡ nan → ⊥) → nearer_of b (nearer_free reference free i c) ≡ nearer_free reference free i (nearer_of b c)
  unfolding nearer_free nearer_of far
  turn_over i b c k =
      cases (lt (far i) c.distance)
      (λ t.
      cases (lt c.distance b.distance)
      (λ u. rw (t, u, t, lt_trans (far i) c.distance b.distance t u))
      (λ u. rw (t, u)))
      (λ f.
      cases (lt c.distance b.distance)
      (λ u. rw (f, u, f))
      (λ u. rw (f, u, not_lt_trans (far i) c.distance b.distance k f u)))

  -- the distance that a run found is no NaN
  run_some : (h n k : ℕ) → (times (nearer_from reference free h) (nobody_of n) k).distance ≡ nan → ⊥
  unfolding times
  run_some h n zero = λ e. never cc
  run_some h n (suc k) = near_some (h + k) (times (nearer_from reference free h) (nobody_of n) k) (run_some h n k)

  -- nobody is nearer than anybody
  over_nobody : (b : Near) (n : ℕ) → nearer_of b (nobody_of n) ≡ b
  unfolding nearer_of
  over_nobody b n = rw (last b.distance)

  -- the run over h places and the run over the k behind them, held against each other, are the run over h + k
  two_runs : (n h k : ℕ) → nearer_of (times (nearer_free reference free) (nobody_of n) h) (times (nearer_from reference free h) (nobody_of n) k) ≡ times (nearer_free reference free) (nobody_of n) (h + k)
  unfolding times
  two_runs n h zero = rw (add-zero h) (over_nobody (times (nearer_free reference free) (nobody_of n) h) n)
  two_runs n h (suc k) =
      let c = times (nearer_from reference free h) (nobody_of n) k in
      rw (add-suc h k) (turn_over (h + k) (times (nearer_free reference free) (nobody_of n) h) c (run_some h n k) ∙ ap (nearer_free reference free (h + k)) (two_runs n h k))

  module _ (n h i : ℕ) {b c : Near} (over : h ≤ i) (within : i ≤ h) (first : b ≡ times (nearer_free reference free) (nobody_of n) i) (second : c ≡ times (nearer_from reference free h) (nobody_of n) i) where
    -- where n is even, two runs over the halves find the nearest
    pub found_even : n ≤ h + h → h + h ≤ n → (nearer_of b c).place ≡ nearest_free reference free n
    found_even k l =
        let e : i ≡ h = omega arith in
        let w : h + h ≡ n = omega arith in
        rw (first, second, e) (ap (λ (x : Near). x.place) (two_runs n h h ∙ ap (times (nearer_free reference free) (nobody_of n)) w))

    -- where n is odd, the second run goes on to the last place
    pub found_odd : {d : Near} → d ≡ nearer_free reference free (n - 1) c → h + h + 1 ≡ n → (nearer_of b d).place ≡ nearest_free reference free n
    found_odd {d} turn k =
        let e : i ≡ h = omega arith in
        let p : n - 1 ≡ h + i = omega arith in
        let w : h + (h + 1) ≡ n = omega arith in
        let t : d ≡ times (nearer_from reference free h) (nobody_of n) (i + 1) = times_on (nearer_from reference free h) (nobody_of n) i second (turn ∙ ap (λ (x : ℕ). nearer_free reference free x c) p) in
        rw (first, t, e) (ap (λ (x : Near). x.place) (two_runs n h (h + 1) ∙ ap (times (nearer_free reference free) (nobody_of n)) w))
