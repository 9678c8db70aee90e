-- The circle of games: which game is next, and how far it is to a game.
use Prim.Native.Nat.{ℕ, zero, suc, ◌+◌, ◌-◌, ◌%◌, ◌≤◌, ◌<◌}
use mathlib.Core.Path.{◌≡◌, sym, ap, ◌∙◌, subst}
use mathlib.Core.Bool.{Bool, true, false}
use mathlib.Core.Logic.{◌↔◌}
use mathlib.Core.List.{List, [], ◌∷◌, ◌++◌, map}
use Rattle.std.specs.Prelude.{None, Some}
use native.Mathlib.Omega.{arith}
use lib.Dec.{eqb}
use lib.ListN.{get_or}
use borrow.Author.Tests.{eqb-true, eqb-false}
use Rattle.base.specs.Lists.{seek, All, places_from}
use Rattle.base.proofs.Cases.{cases, never}
use Rattle.hall.specs.Games.{turn_at, circle, next_game}

-- ---- which game is next

-- one game is next, not two
the_same : {x y : ℕ} → Some x ≡ Some y → x ≡ y
the_same e = cc

-- x is the first in the list that p holds of
pub record FirstReady (p : ℕ → Bool) (xs : List ℕ) (x : ℕ) : Type 0 where
  pub before : List ℕ
  pub behind : List ℕ
  pub order : xs ≡ before ++ (x ∷ behind)
  pub passed : All (λ y. p y ≡ false) before
  pub holds : p x ≡ true

-- the one that is found is the first
seek_first : (p : ℕ → Bool) (xs : List ℕ) (x : ℕ) → seek p Some None xs ≡ Some x → FirstReady p xs x
unfolding seek
seek_first p [] x e = never cc
seek_first p (y ∷ ys) x e =
    cases (p y)
    (λ t. let z : Some y ≡ Some x = rw t at e in let q : y ≡ x = cc in
    record { before = []; behind = ys; order = ap (λ (n : ℕ). n ∷ ys) q; passed = tt; holds = ap p (sym q) ∙ t })
    (λ f. let i : FirstReady p ys x = seek_first p ys x (rw f at e) in
    record { before = y ∷ i.before; behind = i.behind; order = ap (λ (l : List ℕ). y ∷ l) i.order; passed = (f, i.passed); holds = i.holds })

-- the first is the one that is found
first_seek : (p : ℕ → Bool) (before behind : List ℕ) (x : ℕ) → All (λ y. p y ≡ false) before → p x ≡ true → seek p Some None (before ++ (x ∷ behind)) ≡ Some x
unfolding seek
first_seek p [] behind x a t = rw t
first_seek p (y ∷ ys) behind x a t = rw a.0 (first_seek p ys behind x a.1 t)

-- a game is next exactly where it is ready and no game before it in the circle is
pub next_iff : (ready : ℕ → Bool) (last g : ℕ) → (next_game ready last ≡ Some g) ↔ FirstReady ready (circle last) g
next_iff ready last g = (
  seek_first ready (circle last) g,
  λ f. ap (seek ready Some None) f.order ∙ first_seek ready f.before f.behind g f.passed f.holds,
)

-- the next game is one of 0 to 7
seek_all : (P : ℕ → Type 0) (p : ℕ → Bool) (xs : List ℕ) (x : ℕ) → All P xs → seek p Some None xs ≡ Some x → P x
unfolding seek
seek_all P p [] x a e = never cc
seek_all P p (y ∷ ys) x a e =
    cases (p y) (λ t. let z : Some y ≡ Some x = rw t at e in subst P (the_same z) a.0) (λ f. seek_all P p ys x a.1 (rw f at e))

pub next_low : (ready : ℕ → Bool) (last g : ℕ) → next_game ready last ≡ Some g → g < 8
next_low ready last g = seek_all (λ x. x < 8) ready (circle last) g (omega arith)

-- the circle by places, for a loop that counts from 0
pub circle_at : (last i : ℕ) → i < 8 → get_or (circle last) i 0 ≡ (last + 1 + i) % 8
circle_at last = go
  where
    go : (j : ℕ) → j < 8 → get_or (circle last) j 0 ≡ (last + 1 + j) % 8
    go zero h = omega arith
    go (suc zero) h = omega arith
    go (suc (suc zero)) h = omega arith
    go (suc (suc (suc zero))) h = omega arith
    go (suc (suc (suc (suc zero)))) h = omega arith
    go (suc (suc (suc (suc (suc zero))))) h = omega arith
    go (suc (suc (suc (suc (suc (suc zero)))))) h = omega arith
    go (suc (suc (suc (suc (suc (suc (suc zero))))))) h = omega arith
    go (suc (suc (suc (suc (suc (suc (suc (suc j)))))))) h = absurd (omega arith)

-- ---- how far it is

-- how many games of the circle stand before game g: 0 to 7
abbrev pub ahead : ℕ → ℕ → ℕ
ahead last g = (g + 255 - last) % 8

pub ahead_few : (last g : ℕ) → ahead last g < 8
ahead_few last g = omega arith

-- game g stands there
pub ahead_turn : (last g : ℕ) → g < 8 → last ≤ 255 → turn_at last (suc (ahead last g)) ≡ g
ahead_turn last g h l = omega arith

-- from a game that stands before game g it is nearer
pub ahead_less : (last g i : ℕ) → g < 8 → last ≤ 255 → 1 ≤ i → i ≤ ahead last g → ahead (turn_at last i) g < ahead last g
ahead_less last g i h l a b = omega arith

-- ---- the next game is game g, or is nearer to it

-- a place from k to j, whose game is the one that is found
record Reached (ready : ℕ → Bool) (last k n j : ℕ) : Type 0 where
  at : ℕ
  low : k ≤ at
  high : at ≤ j
  found : seek ready Some None (map (turn_at last) (places_from k n)) ≡ Some (turn_at last at)

-- where the game at place j is ready, one is found, and not behind it
reach : (ready : ℕ → Bool) (last n k j : ℕ) → k ≤ j → j < k + n → ready (turn_at last j) ≡ true → Reached ready last k n j
unfolding seek places_from
reach ready last zero k j l h t = absurd (omega arith)
reach ready last (suc n) k j l h t =
    cases (ready (turn_at last k)) (λ u. record { at = k; low = omega arith; high = l; found = rw u })
    (λ f. cases (eqb k j)
    (λ u. let z : true ≡ false = sym t ∙ ap (λ (i : ℕ). ready (turn_at last i)) (sym (eqb-true k j u)) ∙ f in never cc)
    (λ u. let r : Reached ready last (suc k) n j = reach ready last n (suc k) j (omega (arith, eqb-false k j u)) (omega arith) t in
    record { at = r.at; low = omega (arith, r.low); high = r.high; found = rw f r.found }))

module _ (ready : ℕ → Bool) (last g : ℕ) (h : g < 8) (l : last ≤ 255) (t : ready g ≡ true) where
  -- game g stands in the circle, and is ready
  in_reach : Reached ready last 1 8 (suc (ahead last g))
  in_reach = reach ready last 8 1 (suc (ahead last g)) (omega arith) (omega (arith, ahead_few last g)) (ap ready (ahead_turn last g h l) ∙ t)

  -- while game g is ready, some game is next
  pub some_next : (x : ℕ) × (next_game ready last ≡ Some x)
  unfolding places_from
  some_next = (turn_at last in_reach.at, in_reach.found)

  -- while game g is ready, another game that is next is nearer to it than the last one was
  pub nearer : (x : ℕ) → next_game ready last ≡ Some x → eqb x g ≡ false → ahead x g < ahead last g
  unfolding places_from
  nearer x e f = subst (λ (n : ℕ). ahead n g < ahead last g) q (ahead_less last g in_reach.at h l in_reach.low short)
    where
      here : next_game ready last ≡ Some (turn_at last in_reach.at)
      here = in_reach.found

      q : turn_at last in_reach.at ≡ x
      q = the_same (sym here ∙ e)

      not_there : in_reach.at ≡ suc (ahead last g) → ⊥
      not_there a = eqb-false x g f (sym q ∙ ap (turn_at last) a ∙ ahead_turn last g h l)

      short : in_reach.at ≤ ahead last g
      short = omega (arith, in_reach.high, not_there)
