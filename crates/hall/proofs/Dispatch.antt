-- What a dispatch does: which game it serves, what it leaves where it serves none, and that it is a greedy round of the game that it serves.
use Prim.Native.Nat.{ℕ, ◌≤◌, ◌<◌}
use mathlib.Core.Path.{◌≡◌, refl, sym, ap, ◌∙◌}
use mathlib.Core.Bool.{true, false, ◌||◌}
use mathlib.Core.Logic.{◌↔◌}
use mathlib.Core.List.{[]}
use Rattle.std.specs.Prelude.{Option, None, Some, unwrap_or}
use native.Mathlib.Omega.{arith}
use borrow.Author.Tests.{eqb-true, ltb-false, le-ltb}
use lib.Dec.{eqb, ltb}
use Rattle.base.specs.Refusals.{Outcome, refused, gives}
use Rattle.base.specs.Lists.{any}
use Rattle.base.proofs.Cases.{cases, never}
use Rattle.base.proofs.Checks.{neither, given}
use Rattle.base.proofs.Members.{stay_nobody}
use Rattle.roster.specs.Roster.{Roster}
use Rattle.seating.specs.Seating.{Sheets, sizes_over, seats}
use Rattle.hall.specs.Games.{is_no_game, no_game, no_last_game, circle, next_game}
use Rattle.hall.specs.Hall.{HallState, awaiting, is_over}
use Rattle.hall.specs.Rounds.{Method, greedy, Round, of_game, dispatch, RoundCall, Found, ready, served_by, round_found, served_in, departing, round_rule}
use Rattle.hall.proofs.Circle.{FirstReady, next_iff, next_low, some_next}
use Rattle.hall.proofs.Found.{round_found_lem, round_within}

-- in a hall within its limits the last game served is 0 to 7, or none
pub last_low : (h : HallState) → is_over h ≡ false → h.served ≤ no_game
last_low h e = go (neither (any sizes_over h.sizes) _ (neither (ltb 64 h.waiting.size || ltb 1024 h.log.size) _ e).1).1
  where
    go : no_last_game h.served ≡ false → h.served ≤ no_game
    go e =
        cases (is_no_game h.served)
        (λ t. cases (eqb h.served no_game) (λ q. omega (arith, eqb-true h.served no_game q)) (λ q. never (let z : true ≡ false = rw (t, q) at e in cc)))
        (λ f. omega (arith, ltb-false 7 h.served f))

-- a round by game leaves the last game served: only a dispatch changes it
pub by_game_stays : (h : HallState) (c : RoundCall) (g : ℕ) (m : Method) → c.round ≡ of_game g m → (round_rule h c).hall.served ≡ h.served
by_game_stays h c g m p = go (round_found h c)
  where
    go : (x : Outcome Found) → (departing h (served_by h c.round) x).served ≡ h.served
    go (refused n) = refl
    go (gives f) = ap (λ (r : Round). unwrap_or (served_by h r) h.served) p

module _ (h : HallState) (r : Roster) (clock : ℕ) (sheets : Sheets) where
  -- the dispatch, and the greedy round of a game, with this roster, clock and sheets
  abbrev dispatching : RoundCall
  dispatching = record { round = dispatch r; clock = clock; sheets = sheets }

  abbrev playing : ℕ → RoundCall
  playing g = record { round = of_game g (greedy r); clock = clock; sheets = sheets }

  -- the game whose turn it is
  abbrev next : Option ℕ
  next = next_game (ready h) h.served

  module _ (f : Found) (free : round_found h dispatching ≡ gives f) where
    -- a dispatch not refused serves the game whose turn it is
    pub serves_next : (round_rule h dispatching).served ≡ next
    serves_next = rw free

    -- it serves game g exactly where g has enough, and no game before it in the circle from the last one served on has
    pub serves_iff : (g : ℕ) → ((round_rule h dispatching).served ≡ Some g) ↔ FirstReady (ready h) (circle h.served) g
    serves_iff g = rw serves_next (next_iff (ready h) h.served g)

    -- it serves none exactly where no game has enough
    pub serves_none_iff : ((round_rule h dispatching).served ≡ None) ↔ ((g : ℕ) → g < 8 → ready h g ≡ false)
    serves_none_iff = rw serves_next (to, from)
      where
        to : next ≡ None → (g : ℕ) → g < 8 → ready h g ≡ false
        to e g l =
            cases (ready h g)
            (λ t. let s = some_next (ready h) h.served g l (last_low h (round_within h dispatching f free)) t in let z : None ≡ Some s.0 = sym e ∙ s.1 in never cc)
            (λ k. k)

        from : ((g : ℕ) → g < 8 → ready h g ≡ false) → next ≡ None
        from k = go next refl
          where
            go : (x : Option ℕ) → next ≡ x → next ≡ None
            go None e = e
            go (Some g) e =
                let z : true ≡ false = sym ((next_iff (ready h) h.served g).0 e).holds ∙ k g (next_low (ready h) h.served g e) in
                never cc

    -- the game that it serves is the last one served from then on; where it serves none, that stays as it was
    pub keeps_next : (round_rule h dispatching).hall.served ≡ unwrap_or next h.served
    keeps_next = rw free

    -- where it serves none it finds nothing
    pub finds_none : next ≡ None → f.matches ≡ []
    finds_none e = sym (ap (λ (x : Found). x.matches) (given (rw e at (round_found_lem h dispatching f free))))

  -- a dispatch that serves none leaves the hall as it was, where the hall states the number of those who wait
  pub none_stays : (round_rule h dispatching).served ≡ None → h.waiting ≡ awaiting h.waiting.bookings → (round_rule h dispatching).hall ≡ h
  unfolding seats
  none_stays e w = go (round_found h dispatching) refl e
    where
      go : (x : Outcome Found) → round_found h dispatching ≡ x → served_in next x ≡ None → departing h next x ≡ h
      go (refused n) p e = refl
      go (gives f) p e =
          rw (e, finds_none f p e, stay_nobody (λ b. b.player) h.waiting.bookings)
          (λ i. record { waiting = sym w i; log = h.log; sizes = h.sizes; served = h.served })

  -- it hands out what the greedy round of game g does, and the same guests leave
  pub record AsGreedy (g : ℕ) : Type 0 where
    pub handed : (round_rule h dispatching).handed ≡ (round_rule h (playing g)).handed
    pub waiting : (round_rule h dispatching).hall.waiting ≡ (round_rule h (playing g)).hall.waiting

  -- a dispatch that serves game g is a greedy round of game g
  pub as_greedy : (g : ℕ) → (round_rule h dispatching).served ≡ Some g → AsGreedy g
  as_greedy g e =
      record {
        handed = rw (turn_of, known);
        waiting = ap (λ (x : Outcome Found). (departing h next x).waiting) found_alike ∙ leave (round_found h (playing g));
      }
    where
      turn_of : next ≡ Some g
      turn_of = go (round_found h dispatching) e
        where
          go : (x : Outcome Found) → served_in next x ≡ Some g → next ≡ Some g
          go (refused n) e = never cc
          go (gives f) e = e

      known : is_no_game g ≡ false
      known = le-ltb 7 g (omega (arith, next_low (ready h) h.served g turn_of))

      found_alike : round_found h dispatching ≡ round_found h (playing g)
      found_alike = rw (turn_of, known)

      leave : (x : Outcome Found) → (departing h next x).waiting ≡ (departing h None x).waiting
      leave (refused n) = refl
      leave (gives f) = refl
