-- Laws of the games over plain numbers: sizes, enough, the last one served, and the search along the circle.
use Prim.Native.Nat.{ℕ, ◌+◌, ◌-◌, ◌%◌, ◌≤◌, ◌<◌}
use mathlib.Core.Path.{◌≡◌, sym, ap, ◌∙◌}
use mathlib.Core.Bool.{Bool, true, false, not, and-false, and-true}
use mathlib.Core.List.{List}
use Rattle.std.specs.Prelude.{unwrap_or}
use Rattle.std.specs.Prelude.{None, Some}
use native.Mathlib.Omega.{arith}
use borrow.Author.Tests.{lt-ltb, le-ltb, le-leb, lt-leb, ne_eqb}
use lib.Dec.{eqb, ltb}
use lib.ListN.{length, get_or, drop, get_or-eq_default}
use Rattle.base.specs.Lists.{seek, any}
use Rattle.base.proofs.Loops.{seek_hit, seek_on, seek_end}
use Rattle.seating.specs.declared.TeamComposition.{TeamComposition}
use Rattle.seating.specs.Seating.{sizes_over}
use Rattle.hall.specs.Games.{unused, sizes_for, no_game, game_in, games_over, enough_for, circle, next_game}
use Rattle.hall.proofs.Circle.{circle_at}

-- a number above 7 has no sizes
pub sizes_none : (sizes : List TeamComposition) (g : ℕ) → length sizes ≡ 8 → 7 < g → unused ≡ sizes_for sizes g
sizes_none sizes g long h = sym (get_or-eq_default sizes unused (omega arith))

-- ---- enough

module _ (s : TeamComposition) (n : ℕ) where
  -- fewer than A + B are not enough
  pub few_for_a : n < s.a → false ≡ enough_for s n
  few_for_a h = rw (lt-leb (s.a + s.b) n (omega arith)) (sym (and-false (ltb 0 (s.a + s.b))))

  pub few_for_b : s.a ≤ n → n - s.a < s.b → false ≡ enough_for s n
  few_for_b h k = rw (lt-leb (s.a + s.b) n (omega arith)) (sym (and-false (ltb 0 (s.a + s.b))))

  module _ (fits : s.a ≤ n) (both : s.b ≤ n - s.a) where
    -- that many are
    pub enough_by_a : 0 < s.a → true ≡ enough_for s n
    enough_by_a h = rw (lt-ltb 0 (s.a + s.b) (omega arith), le-leb (s.a + s.b) n (omega arith))

    -- if they are any
    pub enough_by_b : s.a ≤ 0 → ltb 0 s.b ≡ enough_for s n
    enough_by_b h =
        let all : s.a + s.b ≡ s.b = omega arith in
        rw (le-leb (s.a + s.b) n (omega arith), all) (sym (and-true (ltb 0 s.b)))

-- ---- the last game served

module _ (sizes : List TeamComposition) (served : ℕ) where
  -- a size is over 8
  pub over_sizes : any sizes_over sizes ≡ true → true ≡ games_over sizes served
  over_sizes e = rw e

  module _ (sized : any sizes_over sizes ≡ false) where
    -- a game, or else none
    pub over_game : served ≤ 7 → false ≡ games_over sizes served
    over_game h = rw (sized, le-ltb 7 served h)

    pub over_none : 7 < served → not (eqb served no_game) ≡ games_over sizes served
    over_none h = rw (sized, lt-ltb 7 served h)

-- none was served: the last one stays
pub none_last : (last served : ℕ) → served ≡ no_game → last ≡ unwrap_or (game_in served) last
none_last last served e = rw e

-- one was: it is the last
pub served_last : (last served : ℕ) → (served ≡ no_game → ⊥) → served ≡ unwrap_or (game_in served) last
served_last last served e = rw (ne_eqb served no_game e)

-- ---- the search along the circle

-- the rest of the circle gives what the whole gives
abbrev pub Rest : (ℕ → Bool) → ℕ → ℕ → Type 0
Rest ready last i = next_game ready last ≡ seek ready Some None (drop i (circle last))

-- a byte that is no game's stands for none, and a game's for the game
pub game_told : (g : ℕ) → g < 8 → game_in g ≡ Some g
game_told g h = let z : g ≡ no_game → ⊥ = λ e. omega (arith, e) in rw (ne_eqb g no_game z)

module _ (ready : ℕ → Bool) (last i : ℕ) (inv : Rest ready last i) (g : ℕ) (at : g ≡ (last + 1 + i) % 8) where
  -- the game at this place
  stands : i < 8 → get_or (circle last) i 0 ≡ g
  stands h = circle_at last i h ∙ sym at

  -- it is ready
  pub next_hit : i < 8 → true ≡ ready g → game_in g ≡ next_game ready last
  next_hit h e =
      let low : g < 8 = omega arith in
      game_told g low ∙ ap Some (sym (stands h)) ∙ seek_hit ready Some None (circle last) i 0 inv h (ap ready (stands h) ∙ sym e)

  -- it is not
  pub next_on : i < 8 → false ≡ ready g → Rest ready last (i + 1)
  next_on h e = seek_on ready Some None (circle last) i 0 inv h (ap ready (stands h) ∙ sym e)

-- none is
pub next_none : (ready : ℕ → Bool) (last i : ℕ) → Rest ready last i → 8 ≤ i → game_in no_game ≡ next_game ready last
next_none ready last i inv h = seek_end ready Some None (circle last) i inv h
