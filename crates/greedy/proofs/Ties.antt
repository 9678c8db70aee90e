-- What goes before what: the smaller distance, and of equal ones the earlier joined time.
use Prim.Native.Nat.{ℕ, ◌≤◌, ◌<◌}
use mathlib.Core.Path.{◌≡◌, sym, ◌∙◌}
use mathlib.Core.Bool.{true, false, not, ◌&&◌}
use native.Mathlib.Omega.{arith}
use borrow.Author.Tests.{ltb-true, ltb-false, lt-ltb, le-ltb}
use lib.Dec.{ltb}
use lib.Ieee.{Float, nan, lt, eq}
use Rattle.base.proofs.Cases.{cases, never}
use Rattle.base.proofs.Checks.{both_hold}
use Rattle.base.proofs.Order.{lt_asym, lt_trans}
use Rattle.base.proofs.Equal.{eq_level, level_eq, eq_sym, eq_trans, eq_lt, lt_eq, lt_number}
use Rattle.greedy.specs.Greedy.{goes_before}

module _ (d : Float) (j : ℕ) (near : Float) (since : ℕ) where
  -- a nearer one, one that ties, a farther one
  before_nearer : lt d near ≡ true → goes_before d j near since ≡ true
  unfolding goes_before
  before_nearer h = rw h

  before_tied : lt d near ≡ false → eq d near ≡ true → goes_before d j near since ≡ ltb j since
  unfolding goes_before
  before_tied h k = rw (h, k)

  before_farther : lt d near ≡ false → eq d near ≡ false → goes_before d j near since ≡ false
  unfolding goes_before
  before_farther h k = rw (h, k)

  -- what goes before is nearer, or ties and joined earlier
  pub before_elim : {A : Type 0} → goes_before d j near since ≡ true → (lt d near ≡ true → A) → (eq d near ≡ true → j < since → A) → A
  unfolding goes_before
  before_elim h f g =
      cases (lt d near) f
      (λ t.
      let k : (eq d near && ltb j since) ≡ true = rw t at h in
      let e = both_hold (eq d near) (ltb j since) k in
      g e.0 (ltb-true j since e.1))

  -- what does not is not nearer
  pub after_far : goes_before d j near since ≡ false → lt d near ≡ false
  unfolding goes_before
  after_far h = cases (lt d near) (λ t. never (let e : true ≡ false = rw t at h in cc)) (λ f. f)

  -- and where it ties it joined no earlier
  pub after_tied : goes_before d j near since ≡ false → eq d near ≡ true → since ≤ j
  after_tied h k = ltb-false j since (sym (before_tied (after_far h) k) ∙ h)

  -- what is not nearer, and where it ties joined no earlier, does not go before
  pub after_both : lt d near ≡ false → (eq d near ≡ true → since ≤ j) → goes_before d j near since ≡ false
  after_both h g = cases (eq d near) (λ t. before_tied h t ∙ le-ltb j since (g t)) (before_farther h)

  -- who joined no earlier goes before only by a smaller distance
  pub before_late : since ≤ j → goes_before d j near since ≡ lt d near
  before_late h = cases (lt d near) (λ t. rw t (before_nearer t)) (λ f. rw f (after_both f (λ e. h)))

  -- what goes before is a number
  pub before_number : goes_before d j near since ≡ true → d ≡ nan → ⊥
  before_number h = before_elim h (lt_number d near) (λ e k. (eq_level d near e).left)

-- what goes before one that goes before a third goes before that
pub before_trans : (a b c : Float) (i j k : ℕ) → goes_before a i b j ≡ true → goes_before b j c k ≡ true → goes_before a i c k ≡ true
before_trans a b c i j k h g =
    before_elim a i b j h
    (λ l.
    before_elim b j c k g (λ m. before_nearer a i c k (lt_trans a b c l m)) (λ m t. before_nearer a i c k (lt_eq a b c l m)))
    (λ l s.
    before_elim b j c k g (λ m. before_nearer a i c k (eq_lt a b c l m))
    (λ m t.
    let e = eq_trans a b c l m in
    before_tied a i c k (eq_level a c e).under e ∙ lt-ltb i k (omega arith)))

-- of two numbers with different joined times just one goes before the other
pub before_one : (a b : Float) (i j : ℕ) → (a ≡ nan → ⊥) → (b ≡ nan → ⊥) → (i ≡ j → ⊥) → goes_before b j a i ≡ not (goes_before a i b j)
before_one a b i j m n d =
    cases (lt a b)
    (λ t. rw (before_nearer a i b j t) (after_both b j a i (lt_asym a b t) (λ e. never (let f = (eq_level b a e).over in cc))))
    (λ f.
    cases (lt b a)
    (λ t. rw (before_nearer b j a i t, after_both a i b j f (λ e. never (let g = (eq_level a b e).over in cc))))
    (λ g.
    let e : eq a b ≡ true = level_eq a b (record { left = m; right = n; under = f; over = g }) in
    rw (before_tied a i b j f e, before_tied b j a i g (eq_sym a b e))
    (cases (ltb i j) (λ t. rw (t, le-ltb j i (let h = ltb-true i j t in omega arith)))
    (λ u. rw (u, lt-ltb j i (before (ltb-false i j u)))))))
  where
    before : j ≤ i → j < i
    before h = cases (ltb j i) (ltb-true j i) (λ f. absurd (d (let k = ltb-false j i f in omega arith)))
