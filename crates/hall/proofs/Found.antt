-- What a round that is not refused hands out: full matches of different guests who wait for its game, and of a full round the best choice.
use Prim.Native.Nat.{ℕ}
use mathlib.Core.Path.{◌≡◌, refl, subst}
use mathlib.Core.Bool.{Bool, true, false}
use mathlib.Core.List.{List, [], ◌∷◌, map, map-map, append-nil}
use Rattle.std.specs.Prelude.{Option, None, Some}
use Rattle.base.specs.Refusals.{Outcome, refused, gives}
use Rattle.base.specs.Lists.{seek, Distinct, Within}
use Rattle.base.proofs.Cases.{never}
use Rattle.base.proofs.Checks.{passed_to, given}
use Rattle.base.proofs.Members.{distinct_keep, within_keep}
use Rattle.queue.specs.declared.QueueEntry.{QueueEntry}
use Rattle.matchmaker.specs.Quality.{MatchState}
use Rattle.seating.specs.declared.TeamComposition.{TeamComposition}
use Rattle.seating.specs.Seating.{seats}
use Rattle.beam.specs.Beam.{beaming, beam_matches}
use Rattle.seating.proofs.Drawn.{Drawn, drawn_none}
use Rattle.greedy.proofs.Drawn.{greedy_drawn}
use Rattle.beam.proofs.Drawn.{beam_drawn}
use Rattle.candidate.proofs.ListingLaws.{Filled}
use Rattle.choice.specs.Full.{Terms, Selection, chosen}
use Rattle.choice.proofs.FullLaws as Full
use Rattle.choice.proofs.FullLaws.{BestChoice, chosen_best}
use Rattle.hall.specs.declared.Booking.{Booking}
use Rattle.hall.specs.Games.{sizes_for, eligible, eligible_by}
use Rattle.hall.specs.Hall.{HallState, entry_of, is_over}
use Rattle.hall.specs.Rounds.{Method, greedy, beam, full, of_game, RoundCall, Found, untried, selected, list_of, found_by, method_check, findings, method_of, game_of, sizes_in, eligible_in, entries_in, names_no_game, hall_check, round_found, FullRound, none_passes, best}

-- ---- what a method finds

-- one match of the listing
drawn_one : (s : TeamComposition) (es : List QueueEntry) (m : MatchState) → Distinct (map (λ e. e.player) es) → Filled s es m → Drawn s es (m ∷ [])
unfolding seats
drawn_one s es m d f =
    record {
      seating = record { sizes = ((f.first, f.second), tt); different = rw append-nil (f.different d); waiting = rw append-nil f.queued };
      lined = (f.lined, tt);
    }

module _ (s : TeamComposition) (clock : ℕ) (es : List QueueEntry) where
  -- each of the three methods finds full matches of different guests
  found_drawn : (m : Method) (f : Found) → Distinct (map (λ e. e.player) es) → found_by m s clock es ≡ gives f → Drawn s es f.matches
  found_drawn (greedy r) f d e = subst (λ (x : Found). Drawn s es x.matches) (given e) (greedy_drawn s r es)
  found_drawn (beam width o r) f d e = go (beam_matches (beaming s width o r es clock) es) refl e
    where
      go : (x : Outcome (List MatchState)) → beam_matches (beaming s width o r es clock) es ≡ x → untried x ≡ gives f → Drawn s es f.matches
      go (refused n) p e = never cc
      go (gives ms) p e = subst (λ (x : Found). Drawn s es x.matches) (given e) (beam_drawn (beaming s width o r es clock) es ms p)
  found_drawn (full t) f d e = go (chosen t s es) refl e
    where
      one : (sel : Selection) → chosen t s es ≡ gives sel → (o : Option MatchState) → sel.best ≡ o → Drawn s es (list_of o)
      one sel p None q = drawn_none s es
      one sel p (Some m) q = drawn_one s es m d (chosen_best t s es sel p m q).filled

      go : (x : Outcome Selection) → chosen t s es ≡ x → selected x ≡ gives f → Drawn s es f.matches
      go (refused n) p e = never cc
      go (gives sel) p e = subst (λ (x : Found). Drawn s es x.matches) (given e) (one sel p sel.best refl)

  -- a full round finds a match exactly when some choice passes, and no choice that passes scores higher
  found_best : (t : Terms) (f : Found) → found_by (full t) s clock es ≡ gives f → FullRound t s es f.matches
  found_best t f e = go (chosen t s es) refl e
    where
      one : (sel : Selection) → chosen t s es ≡ gives sel → (o : Option MatchState) → sel.best ≡ o → FullRound t s es (list_of o)
      one sel p None q = none_passes (Full.none_passes t s es sel p q)
      one sel p (Some m) q =
          let b : BestChoice t s es m = chosen_best t s es sel p m q in
          best m b.last.front b.last.back b.last.whole b.tops

      go : (x : Outcome Selection) → chosen t s es ≡ x → selected x ≡ gives f → FullRound t s es f.matches
      go (refused n) p e = never cc
      go (gives sel) p e = subst (λ (x : Found). FullRound t s es x.matches) (given e) (one sel p sel.best refl)

-- ---- whom a round may seat

-- entries have the guests of their bookings
pub players : (bs : List Booking) → map (λ e. e.player) (map entry_of bs) ≡ map (λ b. b.player) bs
players bs = map-map (λ (e : QueueEntry). e.player) entry_of bs

module _ (ws : List Booking) where
  -- nobody whom a round may seat stands there twice
  eligible_distinct : (g : Option ℕ) → Distinct (map (λ b. b.player) ws) → Distinct (map (λ b. b.player) (eligible_by g ws))
  eligible_distinct None d = tt
  eligible_distinct (Some g) d = distinct_keep (λ b. b.player) _ ws d

  -- and all of them wait
  pub eligible_waits : (g : Option ℕ) (ns : List ℕ) → Within ns (map (λ b. b.player) (eligible_by g ws)) → Within ns (map (λ b. b.player) ws)
  unfolding seek
  eligible_waits None [] w = tt
  eligible_waits None (n ∷ ns) w = never (let z : false ≡ true = w.0 in cc)
  eligible_waits (Some g) ns w = within_keep (λ b. b.player) _ ns ws w

-- ---- what a round hands out

-- where the check of the hall passes, the game is one, and the hall is within its limits
pub hall_passes : (unknown over : Bool) → gives tt ≡ hall_check unknown over → (unknown ≡ false) × (over ≡ false)
hall_passes true over e = never cc
hall_passes false true e = never cc
hall_passes false false e = (refl, refl)

-- a round that names no game is refused with 13, whatever else it brings
pub unknown_game : (h : HallState) (c : RoundCall) → names_no_game c.round ≡ true → round_found h c ≡ refused 13
unknown_game h c e = rw e

module _ (h : HallState) (c : RoundCall) (f : Found) (e : round_found h c ≡ gives f) where
  -- what its method says of those whom it may seat
  abbrev there : Outcome Found
  there = findings (method_of c.round) c.clock c.sheets (sizes_in h c) (entries_in h c) h.waiting.bookings

  -- it is what its method finds, behind the checks
  pub round_found_lem : found_by (method_of c.round) (sizes_in h c) c.clock (entries_in h c) ≡ gives f
  unfolding findings
  round_found_lem =
      (passed_to (method_check (method_of c.round) c.clock c.sheets (sizes_in h c) (entries_in h c) h.waiting.bookings) _
      (passed_to (hall_check (names_no_game c.round) (is_over h)) there e).1).1

  -- the matches of a round seat different guests who wait for its game
  pub round_drawn : Distinct (map (λ b. b.player) h.waiting.bookings) → Drawn (sizes_in h c) (entries_in h c) f.matches
  round_drawn d =
      found_drawn (sizes_in h c) c.clock (entries_in h c) (method_of c.round) f
      (rw (players (eligible_in h c)) (eligible_distinct h.waiting.bookings (game_of h c) d)) round_found_lem

  -- the match of a full round is the best choice of those whom it may seat
  pub round_best : (g : ℕ) (t : Terms) → c.round ≡ of_game g (full t) → FullRound t (sizes_for h.sizes g) (map entry_of (eligible g h.waiting.bookings)) f.matches
  round_best g t p = found_best (sizes_for h.sizes g) c.clock _ t f (rw p at round_found_lem)

  -- a round that is not refused found the hall within its limits
  pub round_within : is_over h ≡ false
  round_within = (hall_passes (names_no_game c.round) (is_over h) (passed_to (hall_check (names_no_game c.round) (is_over h)) there e).0).1
