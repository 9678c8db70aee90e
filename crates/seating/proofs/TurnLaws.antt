-- Whose turn it is, and the match with one more player by turn.
use Prim.Native.Nat.{ℕ, suc, ◌+◌, ◌-◌, ◌≤◌, ◌<◌, min}
use mathlib.Core.Path.{◌≡◌, sym, ◌∙◌}
use mathlib.Core.Bool.{Bool, true, false, cond, ◌&&◌, ◌||◌}
use mathlib.Core.List.{[], ◌∷◌, ◌++◌}
use native.Mathlib.Nat.{min-eq_left, min-le_right}
use native.Mathlib.Omega.{arith}
use borrow.Author.Tests.{ltb-true, ltb-false, lt-ltb, le-ltb, le-leb, lt-leb, eq-eqb, ne_eqb}
use lib.Dec.{ltb, leb, eqb}
use lib.ListN.{length, length-append}
use Rattle.base.proofs.Cases.{cases, never}
use Rattle.matchmaker.specs.Quality.{TeamState, MatchState}
use Rattle.seating.specs.declared.TeamComposition.{TeamComposition}
use Rattle.seating.specs.Seating.{team}
use Rattle.seating.specs.Steps.{held_sizes, joined_to}
use Rattle.seating.specs.Turns.{takes_a, grown, complete}

-- sizes of 8 at most are held as they are
pub held_whole : (s : TeamComposition) → s.a ≤ 8 → s.b ≤ 8 → held_sizes s ≡ s
held_whole s h k = λ j. record { a = min-eq_left h j; b = min-eq_left k j }

-- one more joins a team that is short of a size held
pub joined_held : (n : ℕ) (t : TeamState) (p : ℕ) {x : TeamState} → length t.players < min n 8 → x ≡ joined_to t p → x ≡ team (t.players ++ (p ∷ []))
joined_held n t p h e = e ∙ rw (lt-ltb (length t.players) 8 (omega (arith, min-le_right n 8)))

-- whose turn it is, in the order of the code's tests; h and k players are held
module _ (s : TeamComposition) (m : MatchState) {h : ℕ} (a : h ≡ length m.a.players) where
  pub turn_full : s.a ≤ h → false ≡ takes_a s m
  turn_full f = rw (← a, le-ltb h s.a f)

  module _ {k : ℕ} (b : k ≡ length m.b.players) (short : h < s.a) where
    pub turn_even : h ≤ k → true ≡ takes_a s m
    turn_even e = rw (← a, ← b, lt-ltb h s.a short, le-leb h k e)

    pub turn_ahead : k < h → eqb k s.b ≡ takes_a s m
    turn_ahead e = rw (← a, ← b, lt-ltb h s.a short, lt-leb h k e)

  -- both teams are of their sizes
  pub full_a : h ≡ s.a → {k : ℕ} → k ≡ length m.b.players → eqb k s.b ≡ complete s m
  full_a e {k} b = rw (← a, ← b, eq-eqb h s.a e)

  pub not_full_a : (h ≡ s.a → ⊥) → false ≡ complete s m
  not_full_a e = rw (← a, ne_eqb h s.a e)

module _ (s : TeamComposition) (m : MatchState) {t : Bool} (turn : t ≡ takes_a s m) where
  -- a team whose turn it is is short
  pub turn_short : t ≡ true → length m.a.players < s.a
  turn_short e =
      cases (ltb (length m.a.players) s.a) (ltb-true (length m.a.players) s.a)
      (λ f. never (let k : false ≡ true = rw f at (sym turn ∙ e) in cc))

  module _ (p : ℕ) {x : TeamState} where
    -- A takes the player
    pub grown_a : t ≡ true → x ≡ team (m.a.players ++ (p ∷ [])) → ◌≡◌ {A = MatchState} (record { a = x; b = m.b }) (grown s m p)
    unfolding grown
    grown_a e h = rw (sym turn ∙ e, h)

    -- B takes the player
    pub grown_b : t ≡ false → {k : ℕ} → k ≡ length m.b.players → k < s.b → x ≡ team (m.b.players ++ (p ∷ [])) → ◌≡◌ {A = MatchState} (record { a = m.a; b = x }) (grown s m p)
    unfolding grown
    grown_b e {k} b short h = rw (sym turn ∙ e, ← b, lt-ltb k s.b short, h)

  -- nobody does
  pub grown_none : (p : ℕ) → t ≡ false → {k : ℕ} → k ≡ length m.b.players → s.b ≤ k → m ≡ grown s m p
  unfolding grown
  grown_none p e {k} b full = rw (sym turn ∙ e, ← b, le-ltb k s.b full)

-- ---- the Rust's turns

-- "while a team is short"
abbrev pub short : TeamComposition → MatchState → Bool
short s m = ltb (length m.a.players) s.a || ltb (length m.b.players) s.b

-- the turn's player goes into A where A picks, "else B", whatever B's length
abbrev pub pushed : TeamComposition → MatchState → ℕ → MatchState
pushed s m p =
    cond (takes_a s m) (record { a = team (m.a.players ++ (p ∷ [])); b = m.b }) (record { a = m.a; b = team (m.b.players ++ (p ∷ [])) })

-- ---- how many seats are left

-- the seats that are left in both teams
abbrev pub left : TeamComposition → MatchState → ℕ
left s m = s.a - length m.a.players + (s.b - length m.b.players)

-- B is never over its size
abbrev pub Fits : TeamComposition → MatchState → Type 0
Fits s m = length m.b.players ≤ s.b

module _ (s : TeamComposition) (m : MatchState) where
  -- where a seat is left, a team is short
  pub short_left : (k : ℕ) → left s m ≡ suc k → short s m ≡ true
  short_left k e =
      cases (ltb (length m.a.players) s.a) (λ t. rw t)
      (λ f. rw (f, lt-ltb (length m.b.players) s.b (omega (arith, ltb-false (length m.a.players) s.a f))))

  -- where no seat is left, no team is
  pub full_left : left s m ≡ 0 → short s m ≡ false
  full_left e = rw (le-ltb (length m.a.players) s.a (omega arith), le-ltb (length m.b.players) s.b (omega arith))

  -- where A picks, A is short
  pub a_short : takes_a s m ≡ true → length m.a.players < s.a
  a_short t =
      cases (ltb (length m.a.players) s.a) (λ u. ltb-true (length m.a.players) s.a u) (λ u. never (let e : false ≡ true = rw u at t in cc))

  -- where a team is short and A doesn't pick, B is short
  b_short : Fits s m → short s m ≡ true → takes_a s m ≡ false → length m.b.players < s.b
  b_short l h t =
      cases (ltb (length m.b.players) s.b) (λ u. ltb-true (length m.b.players) s.b u)
      (λ u.
      let e : eqb (length m.b.players) s.b ≡ true = eq-eqb (length m.b.players) s.b (omega (arith, ltb-false (length m.b.players) s.b u)) in
      never (never_both (ltb (length m.a.players) s.a) (leb (length m.a.players) (length m.b.players)) (rw u at h) (rw e at t)))
    where
      never_both : (x y : Bool) → (x || false) ≡ true → (x && (y || true)) ≡ false → ◌≡◌ {A = ℕ} 0 1
      never_both true true h t = never cc
      never_both true false h t = never cc
      never_both false y h t = never cc

  module _ (p : ℕ) (l : Fits s m) (h : short s m ≡ true) where
    -- so the definition's turn is the Rust's
    pub grown_pushed : grown s m p ≡ pushed s m p
    unfolding grown
    grown_pushed = cases (takes_a s m) (λ t. rw t) (λ t. rw (t, lt-ltb (length m.b.players) s.b (b_short l h t)))

    -- a pick takes one of the seats that are left
    pub pushed_left : (k : ℕ) → left s m ≡ suc k → left s (pushed s m p) ≡ k
    pushed_left k e =
        cases (takes_a s m) (λ t. rw t (omega (arith, a_short t, length-append m.a.players (p ∷ []))))
        (λ t. rw t (omega (arith, b_short l h t, length-append m.b.players (p ∷ []))))

    -- and B stays within its size
    pub pushed_fits : Fits s (pushed s m p)
    pushed_fits = cases (takes_a s m) (λ t. rw t l) (λ t. rw t (omega (arith, b_short l h t, length-append m.b.players (p ∷ []))))
