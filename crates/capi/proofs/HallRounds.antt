-- What a round of the hall comes to in numbers: refused before its own checks, or as it found, those who stay, and the game served.
use Prim.Native.Nat.{ℕ, zero, suc}
use mathlib.Core.Path.{◌≡◌, refl, sym, ap, ◌∙◌}
use mathlib.Core.Bool.{Bool, true, false, cond}
use mathlib.Core.List.{List, map}
use Rattle.std.specs.Prelude.{Option, None, unwrap_or}
use native.Mathlib.Omega.{arith}
use borrow.Author.Tests.{ne_eqb}
use lib.Dec.{eqb}
use lib.Ieee.{Float}
use lib.ListN.{length, take}
use Rattle.base.specs.Lists.{any}
use Rattle.base.specs.Numbers.{value_or, outcome_in}
use Rattle.base.specs.Refusals.{Outcome, refused, gives}
use Rattle.base.proofs.Cases.{cases, never}
use Rattle.base.proofs.Members.{stay_nobody}
use Rattle.base.proofs.Numbers.{number_accepts, number_refuses}
use Rattle.roster.specs.Roster.{Roster}
use Rattle.matchmaker.specs.Quality.{MatchState}
use Rattle.objective.specs.declared.soft.SoftObjective.{SoftObjective}
use Rattle.constraint.specs.declared.Constraints as whole
use Rattle.seating.specs.declared.TeamComposition.{TeamComposition}
use Rattle.seating.specs.Seating.{Sheets, HandedOut, seats, handed_out}
use Rattle.choice.specs.Full.{Terms, terms}
use Rattle.hall.proofs.Found.{hall_passes}
use Rattle.hall.proofs.RoundLaws.{greedy_of_none}
use Rattle.hall.proofs.Turns.{within}
use Rattle.hall.proofs.WaitLaws.{stand}
use Rattle.hall.specs.Games.{is_no_game, sizes_for, eligible, no_game, game_in, enough, next_game}
use Rattle.hall.specs.Hall.{WaitState, waits_with, awaiting, without_guests, entry_of, HallState, hall_of, over_limits, is_over}
use Rattle.hall.specs.Rounds.{Method, greedy, full, of_game, dispatch, RoundCall, calling, method_of, Found, findings, quality_by, served_by, sizes_in, entries_in, names_no_game, hall_check, round_found, matches_in, matches_from, served_in, departing, turn_from, round_rule}
use Rattle.hall.specs.Steps.{HandedNumbers, FoundNumbers}
use Rattle.hall.specs.declared.Booking.{Booking}
use Rattle.hall.specs.declared.Hall.{Hall}
use Rattle.hall.specs.declared.rounds.Handed.{Handed}
use Rattle.demand.specs.Calls.{turned_away}
use Rattle.capi.specs.Rules.{constraints_of}
use Rattle.capi.specs.Scores.{is_no_kind, softs_of}
use Rattle.capi.specs.Searches.{sheets}
use Rattle.capi.specs.Halls.{round_in, RoundNumbers, full_call, full_rule}
use Rattle.capi.specs.declared.halls.Rounded.{Rounded}
use Rattle.capi.specs.declared.halls.RoundRules.{RoundRules}
use Rattle.capi.specs.declared.scores.SoftObjectives.{SoftObjectives}

-- ---- what a round leaves

module _ (h : HallState) (whole_row : h.waiting ≡ awaiting h.waiting.bookings) (served : Option ℕ) where
  -- all but the seated stay, and everyone where the round is refused; the game served is the last one then
  left_by : (o : Outcome Found) {w : WaitState} → w ≡ awaiting (without_guests (seats (matches_from o)) h.waiting.bookings) → {n : ℕ} → n ≡ unwrap_or (served_in served o) h.served →
      ◌≡◌ {A = HallState} (record { waiting = w; log = h.log; sizes = h.sizes; served = n }) (departing h served o)
  unfolding seats
  left_by (refused n) e f =
      let all = e ∙ ap awaiting (stay_nobody (λ b. b.player) h.waiting.bookings) ∙ sym whole_row in
      λ j. record { waiting = all j; log = h.log; sizes = h.sizes; served = f j }
  left_by (gives x) e f = λ j. record { waiting = e j; log = h.log; sizes = h.sizes; served = f j }

-- a refused round hands out no match
counted : (quality : MatchState → Float) (o : Outcome Found) (s : Sheets) → length (matches_from o) ≡ value_or 0 (handed_out quality (matches_in o) s).answer
counted quality (refused n) s = refl
counted quality (gives f) s = refl

-- ---- a round

-- within its limits a hall of 64 places has as many waiting as it states
stated : (bs : List Booking) (k n : ℕ) (sizes : List TeamComposition) (last : ℕ) → length bs ≡ 64 → over_limits k n sizes last ≡ false → ◌≡◌ {A = WaitState} (waits_with k bs) (awaiting (take k bs))
stated bs k n sizes last long under = stand bs k (take k bs) (omega (arith, (within k n sizes last refl under).0)) refl

-- a round that is refused before its own checks, and changes nothing
abbrev pub away : Hall → ℕ → Rounded
away hall n = record { hall = hall; count = 0; tried = 0; served = no_game; refusal = n }

-- what its numbers tell
refused_with : (hall : Hall) (s : Sheets) {n : ℕ} → eqb n 0 ≡ false → round_in (away hall n) s.players s.qualities ≡ turned_away (hall_of hall) s n
refused_with hall s {n} e =
    ap (λ (v : Outcome ℕ). record { hall = hall_of hall; handed = record { answer = v; sheets = s }; tried = 0; served = None }) (number_refuses {A = ℕ} n 0 e)

module _ (hall : Hall) (c : RoundCall) where
  abbrev h : HallState
  h = hall_of hall

  -- those who wait, and what the round finds behind the check of the hall
  abbrev ws : List Booking
  ws = take hall.waiting hall.bookings

  abbrev found : Outcome Found
  found = findings (method_of c.round) c.clock c.sheets (sizes_in h c) (entries_in h c) ws

  -- the check of the hall refuses
  away_told : {n : ℕ} → eqb n 0 ≡ false → refused n ≡ hall_check (names_no_game c.round) (is_over h) → RoundNumbers (round_rule h c) (away hall n) c.sheets.players c.sheets.qualities
  away_told {n} e f = rw (← f) (record { turn = refused_with hall c.sheets e; count = refl })

  -- it passes: what the round found, those who stay, and the game served
  round_told : hall_check (names_no_game c.round) (is_over h) ≡ gives tt → length hall.bookings ≡ 64 → (r : Handed) {ps : List ℕ} {qs : List Float} → HandedNumbers (quality_by (method_of c.round)) c.sheets found r ps qs →
      (n : ℕ) → game_in n ≡ served_in (served_by h c.round) found →
      (out : Hall) → waits_with out.waiting out.bookings ≡ awaiting (without_guests (take r.seats ps) ws) → (hall_of out).log ≡ h.log → out.sizes ≡ hall.sizes → out.served ≡ unwrap_or (game_in n) hall.served →
      RoundNumbers (round_rule h c) (record { hall = out; count = r.count; tried = r.tried; served = n; refusal = r.refusal }) ps qs
  round_told passed long r {ps} {qs} f n named out stays log same last =
      let behind : round_found h c ≡ found = rw passed in
      let row = stated hall.bookings hall.waiting hall.noted hall.sizes hall.served long (hall_passes (names_no_game c.round) (is_over h) (sym passed)).1 in
      let w : waits_with out.waiting out.bookings ≡ awaiting (without_guests (seats (matches_from found)) ws) = stays ∙ ap (λ (ps : List ℕ). awaiting (without_guests ps ws)) f.seated in
      let l : out.served ≡ unwrap_or (served_in (served_by h c.round) found) hall.served = last ∙ ap (λ (x : Option ℕ). unwrap_or x hall.served) named in
      let left : hall_of out ≡ departing h (served_by h c.round) found = (λ j. record { waiting = waits_with out.waiting out.bookings; log = log j; sizes = same j; served = out.served }) ∙ left_by h row (served_by h c.round) found w l in
      record {
        turn = (λ j. record { hall = left j; handed = f.handed j; tried = f.tried j; served = named j }) ∙ sym (ap (turn_from h c) behind);
        count = f.count ∙ counted (quality_by (method_of c.round)) found c.sheets ∙ sym (ap (λ (x : Outcome Found). value_or 0 (turn_from h c x).handed.answer) behind);
      }

-- ---- a round of a game

-- a round of a game serves none
serves_none : (o : Outcome Found) → None ≡ served_in None o
serves_none (refused n) = refl
serves_none (gives f) = refl

module _ (hall : Hall) (g : ℕ) (m : Method) (clock : ℕ) (players : List ℕ) (qualities : List Float) where
  abbrev playing : RoundCall
  playing = calling (of_game g m) clock players qualities

  module _ {o : Bool} (told : o ≡ over_limits hall.waiting hall.noted hall.sizes hall.served) (n : ℕ) (answered : outcome_in n tt ≡ hall_check (is_no_game g) o) where
    -- the check of the hall
    checked : outcome_in n tt ≡ hall_check (is_no_game g) (is_over (hall_of hall))
    checked = answered ∙ ap (hall_check (is_no_game g)) told

    -- 13, or a hall over its limits
    pub game_away : (n ≡ 0 → ⊥) → RoundNumbers (round_rule (hall_of hall) playing) (away hall n) players qualities
    game_away f = away_told hall playing (ne_eqb n 0 f) (sym (number_refuses n (tt {0}) (ne_eqb n 0 f)) ∙ checked)

    -- neither: what the round found, and those who stay
    pub game_told : n ≡ 0 → length hall.bookings ≡ 64 → {s : TeamComposition} → s ≡ sizes_for hall.sizes g → (r : Handed) {ps : List ℕ} {qs : List Float} → FoundNumbers m clock (sheets players qualities) s g (take hall.waiting hall.bookings) r ps qs →
        (out : Hall) → waits_with out.waiting out.bookings ≡ awaiting (without_guests (take r.seats ps) (take hall.waiting hall.bookings)) → (hall_of out).log ≡ (hall_of hall).log → out.sizes ≡ hall.sizes → out.served ≡ hall.served →
        RoundNumbers (round_rule (hall_of hall) playing) (record { hall = out; count = r.count; tried = r.tried; served = no_game; refusal = r.refusal }) ps qs
    game_told z long e r f out stays log same last =
        round_told hall playing (sym checked ∙ number_accepts n (tt {0}) z) long r (rw e at f) no_game (serves_none (found hall playing)) out stays log same last

-- ---- a dispatch

-- the game that it served is its own, and none where it was refused
serves : (quality : MatchState → Float) (s : Sheets) (o : Outcome Found) (game : ℕ) (x : Option ℕ) → game_in game ≡ x → (refusal count : ℕ) → outcome_in refusal count ≡ (handed_out quality (matches_in o) s).answer → game_in (value_or no_game (outcome_in refusal game)) ≡ served_in x o
serves quality s (refused n) game x e zero count f = never cc
serves quality s (refused n) game x e (suc i) count f = refl
serves quality s (gives y) game x e zero count f = e
serves quality s (gives y) game x e (suc i) count f = never cc

module _ (hall : Hall) (r : Roster) (clock : ℕ) (players : List ℕ) (qualities : List Float) {o : Bool} (told : o ≡ over_limits hall.waiting hall.noted hall.sizes hall.served) where
  abbrev dispatching : RoundCall
  dispatching = calling (dispatch r) clock players qualities

  -- over its limits
  pub dispatch_away : o ≡ true → RoundNumbers (round_rule (hall_of hall) dispatching) (away hall 1) players qualities
  dispatch_away t = away_told hall dispatching refl (ap (hall_check false) (sym t ∙ told))

  -- within them: what the greedy round of the next game found, those who stay, and that game
  pub dispatch_told : o ≡ false → length hall.bookings ≡ 64 → length hall.sizes ≡ 8 → (game : ℕ) → game_in game ≡ next_game (enough hall.sizes (take hall.waiting hall.bookings)) hall.served →
      {s : TeamComposition} → s ≡ sizes_for hall.sizes game → (x : Handed) {ps : List ℕ} {qs : List Float} → FoundNumbers (greedy r) clock (sheets players qualities) s game (take hall.waiting hall.bookings) x ps qs →
      (n : ℕ) → n ≡ value_or no_game (outcome_in x.refusal game) →
      (out : Hall) → waits_with out.waiting out.bookings ≡ awaiting (without_guests (take x.seats ps) (take hall.waiting hall.bookings)) → (hall_of out).log ≡ (hall_of hall).log → out.sizes ≡ hall.sizes → out.served ≡ unwrap_or (game_in n) hall.served →
      RoundNumbers (round_rule (hall_of hall) dispatching) (record { hall = out; count = x.count; tried = x.tried; served = n; refusal = x.refusal }) ps qs
  dispatch_told t long wide game next {s} e x {ps} {qs} f n g out stays log same last =
      let all : findings (greedy r) clock (sheets players qualities) (sizes_for hall.sizes game) (map entry_of (eligible game (take hall.waiting hall.bookings))) (take hall.waiting hall.bookings) ≡ found hall dispatching = greedy_of_none hall.sizes r clock (sheets players qualities) (take hall.waiting hall.bookings) game wide next in
      let i : HandedNumbers (quality_by (greedy r)) (sheets players qualities) (found hall dispatching) x ps qs = rw all at (rw e at f) in
      let y : game_in n ≡ served_in (served_by (hall_of hall) (dispatch r)) (found hall dispatching) = ap game_in g ∙ serves (quality_by (greedy r)) (sheets players qualities) (found hall dispatching) game (served_by (hall_of hall) (dispatch r)) next x.refusal x.count (ap (λ (d : HandedOut). d.answer) i.handed) in
      round_told hall dispatching (ap (hall_check false) (sym told ∙ t)) long x i n y out stays log same last

-- ---- the full round

-- the refusal of the hall is that of a full round one of whose codes is none, too
refusal_alike : (unknown over : Bool) {n : ℕ} → refused n ≡ hall_check unknown over → cond unknown 13 1 ≡ n
refusal_alike true over f = cc
refusal_alike false true f = cc
refusal_alike false false f = never cc

module _ (hall : Hall) (g : ℕ) (rules : RoundRules) (o : SoftObjectives) (clock : ℕ) (roster : Roster) (players : List ℕ) (qualities : List Float) where
  -- the call that an exported full round stands for, and its terms
  abbrev call : RoundCall
  call = full_call g rules o clock roster (sheets players qualities)

  abbrev pub brought : Terms
  brought = terms roster (constraints_of rules.constraints) rules.waiting_friends (softs_of o.kinds o.weights) o.len

  abbrev Full : Rounded → List ℕ → List Float → Type 0
  Full = RoundNumbers (full_rule (hall_of hall) g o call)

  -- a listed code is none: refused so, and nothing changes
  turned : {n : ℕ} → eqb n 0 ≡ false → cond (is_no_game g) 13 1 ≡ n → any is_no_kind (take o.len o.kinds) ≡ true → Full (away hall n) players qualities
  turned {n} z e b = rw (b, e) (record { turn = refused_with hall (sheets players qualities) z; count = refl })

  -- all listed codes are kinds: the round
  pub kinds_told : any is_no_kind (take o.len o.kinds) ≡ false → {r : Rounded} {ps : List ℕ} {qs : List Float} → RoundNumbers (round_rule (hall_of hall) call) r ps qs → Full r ps qs
  kinds_told b z = rw b z

  module _ {over : Bool} (told : over ≡ over_limits hall.waiting hall.noted hall.sizes hall.served) (n : ℕ) (answered : outcome_in n tt ≡ hall_check (is_no_game g) over) where
    -- 13, or a hall over its limits, whatever the codes are
    pub full_away : (n ≡ 0 → ⊥) → Full (away hall n) players qualities
    full_away f =
        let z : eqb n 0 ≡ false = ne_eqb n 0 f in
        cases (any is_no_kind (take o.len o.kinds)) (λ b. turned z (refusal_alike (is_no_game g) over (sym (number_refuses n (tt {0}) z) ∙ answered)) b)
        (λ b. kinds_told b (game_away hall g (full brought) clock players qualities told n answered f))

    -- neither, and a listed code is none
    pub no_kind_told : n ≡ 0 → any is_no_kind (take o.len o.kinds) ≡ true → Full (away hall 1) players qualities
    no_kind_told z b = turned refl (rw (hall_passes (is_no_game g) over (sym (number_accepts n (tt {0}) z) ∙ answered)).0) b

  -- the round of the constraints and the objectives that the numbers tell
  pub terms_told : {all : whole.Constraints} {softs : List SoftObjective} (s : TeamComposition) (ws : List Booking) → all ≡ constraints_of rules.constraints → softs ≡ softs_of o.kinds o.weights → {r : Handed} {ps : List ℕ} {qs : List Float} →
      FoundNumbers (full (terms roster all rules.waiting_friends softs o.len)) clock (sheets players qualities) s g ws r ps qs → FoundNumbers (full brought) clock (sheets players qualities) s g ws r ps qs
  terms_told s ws e f z = rw (e, f) at z
