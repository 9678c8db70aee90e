-- Laws of the rounds over plain lists: a refused round, and a round that hands out matches.
use Prim.Native.Nat.{ℕ, ◌+◌, ◌*◌, ◌≤◌}
use mathlib.Core.Path.{◌≡◌, refl, sym, ap, ◌∙◌}
use mathlib.Core.Bool.{Bool, true, false, cond, ◌||◌}
use mathlib.Core.List.{List, [], ◌++◌, map}
use Rattle.std.specs.Prelude.{Option}
use native.Mathlib.Omega.{arith}
use borrow.Author.Tests.{le-ltb, eqb-true}
use lib.Dec.{eqb, ltb}
use lib.Ieee.{Float}
use lib.ListN.{length, take, drop, length-append, length-map}
use lib.Seq.{take_at}
use Rattle.std.specs.Prelude.{Result}
use Rattle.std.specs.Prelude.{Ok, Err}
use Rattle.base.specs.declared.Refusal.{Refusal}
use Rattle.base.specs.declared.Refusal.TheVariants.{Clock}
use Rattle.base.specs.Lists.{any, All}
use Rattle.base.specs.Refusals.{Outcome, refused, gives, guarded, refusal_number, outcome_of}
use Rattle.base.proofs.Cases.{cases, never}
use Rattle.base.proofs.Checks.{guard_refuses, guard_passes, passed_to}
use Rattle.base.proofs.Loops.{seek_map}
use Rattle.base.proofs.Members.{length_keep}
use Rattle.base.proofs.Numbers.{refusal_back}
use Rattle.queue.specs.Time.{time_over}
use Rattle.queue.specs.Queue.{QueueState, joined_over, holding}
use Rattle.roster.specs.Roster.{Roster, ratings_check, deviations_check}
use Rattle.matchmaker.specs.Quality.{MatchState, seated, quality_of}
use Rattle.objective.specs.declared.score.MatchObjective.{MatchObjective}
use Rattle.seating.specs.declared.TeamComposition.{TeamComposition}
use Rattle.std.specs.Prelude.{Result, Ok, Err}
use Rattle.seating.specs.Seating.{Sheets, HandedOut, sizes_over, seats_of, are_short, seats, handed_out, leaving}
use Rattle.seating.specs.Searching.{search_check}
use Rattle.seating.proofs.Laws.{length_seats}
use Rattle.greedy.specs.Greedy.{greedy_matches, greedy_rule}
use Rattle.beam.specs.Beam.{beaming, beam_matches, beam_check, beam_rule}
use Rattle.base.proofs.All.{all_so}
use Rattle.greedy.proofs.Seats.{greedy_sized, greedy_none_of_a}
use Rattle.beam.proofs.Seats.{beam_sized}
use Rattle.beam.proofs.Sheets.{beam_fit}
use Rattle.hall.specs.Games.{unused, sizes_for, eligible, sizes_by, eligible_by, no_game, game_in}
use Rattle.hall.specs.Hall.{has_time_over, entry_of}
use Rattle.hall.specs.Rounds.{greedy, beam, Found, untried, findings}
use Rattle.hall.specs.Steps.{clock_among, HandedNumbers, FoundNumbers}
use Rattle.hall.specs.declared.Booking.{Booking}
use Rattle.hall.specs.declared.rounds.Handed.{Handed}
use Rattle.hall.proofs.GameLaws.{sizes_none}
use Rattle.hall.proofs.WaitLaws.{clock_over, clock_kept, own_over}

-- ---- what a round comes to

-- what a refused round hands out
abbrev pub refusing : Refusal → Handed
refusing x = record { count = 0; seats = 0; tried = 0; refusal = refusal_number x }

-- what a round hands out whose matches seat this many each
abbrev pub handing : ℕ → ℕ → ℕ → Handed
handing n each t = record { count = n; seats = n * each; tried = t; refusal = 0 }

module _ (quality : MatchState → Float) (sheets : Sheets) where
  -- a refused round writes nothing
  pub handed_refused : {o : Outcome Found} (x : Refusal) → o ≡ refused (refusal_number x) → {r : Handed} → r ≡ refusing x → HandedNumbers quality sheets o r sheets.players sheets.qualities
  unfolding seats
  handed_refused x e g =
      rw (e, g)
      (record {
        handed = ap (λ (v : Outcome ℕ). record { answer = v; sheets = sheets }) (refusal_back x 0);
        count = refl;
        tried = refl;
        fits = omega arith;
        seated = refl;
      })

  -- matches that are found are handed out, and their seats are the first places of the sheet
  module _ (ms : List MatchState) (each : ℕ) (sized : All (λ m. length (seated m) ≡ each) ms) {n : ℕ} {ps : List ℕ} {qs : List Float} (h : record { answer = gives n; sheets = record { players = ps; qualities = qs } } ≡ handed_out quality (gives ms) sheets) where
    -- the answer is their number
    counted : n ≡ length ms
    counted = let k : ◌≡◌ {A = Outcome ℕ} (gives n) (gives (length ms)) = ap (λ (x : HandedOut). x.answer) h in cc

    -- the players' sheet begins with the seats
    sheet : ps ≡ seats ms ++ drop (length (seats ms)) sheets.players
    sheet = ap (λ (x : HandedOut). x.sheets.players) h

    -- the seats stand on it
    seats_fit : n * each ≤ length ps
    seats_fit =
        rw (counted, sheet, ← length_seats each ms sized, length-append (seats ms) (drop (length (seats ms)) sheets.players)) (omega arith)

    -- in its first places
    seats_first : take (n * each) ps ≡ seats ms
    seats_first =
        rw (counted, sheet)
        (take_at (seats ms) (drop (length (seats ms)) sheets.players) (length ms * each) (length_seats each ms sized))

    -- the whole round
    pub handed_given : {o : Outcome Found} (t : ℕ) → o ≡ gives (record { matches = ms; tried = t }) → HandedNumbers quality sheets o (handing n each t) ps qs
    handed_given t e = rw e (record { handed = h; count = counted; tried = refl; fits = seats_fit; seated = seats_first })

-- ---- what a search comes to

module _ (quality : MatchState → Float) (sheets : Sheets) where
  -- a refusal was one, and the sheets stay
  refused_of : (u : Outcome (List MatchState)) {n : ℕ} {s : Sheets} → record { answer = refused n; sheets = s } ≡ handed_out quality u sheets → (u ≡ refused n) × (s ≡ sheets)
  refused_of (refused m) {n} h =
      let k : ◌≡◌ {A = Outcome ℕ} (refused n) (refused m) = ap (λ (x : HandedOut). x.answer) h in
      (cc, ap (λ (x : HandedOut). x.sheets) h)
  refused_of (gives ms) {n} h = never (let k : ◌≡◌ {A = Outcome ℕ} (refused n) (gives (length ms)) = ap (λ (x : HandedOut). x.answer) h in cc)

  -- a number was that of matches
  given_of : (u : Outcome (List MatchState)) {n : ℕ} {s : Sheets} → record { answer = gives n; sheets = s } ≡ handed_out quality u sheets → (ms : List MatchState) × (u ≡ gives ms)
  given_of (refused m) {n} h = never (let k : ◌≡◌ {A = Outcome ℕ} (gives n) (refused m) = ap (λ (x : HandedOut). x.answer) h in cc)
  given_of (gives ms) h = (ms, refl)

-- a search gave v, and left this
module _ (quality : MatchState → Float) (sheets : Sheets) (each : ℕ) (v : Outcome (List MatchState)) (sized : (ms : List MatchState) → v ≡ gives ms → All (λ m. length (seated m) ≡ each) ms) (f : Result ℕ Refusal) {ps : List ℕ} {qs : List Float} (left : leaving f ps qs ≡ handed_out quality v sheets) where
  -- the search refuses
  search_refused : {o : Outcome Found} → o ≡ untried v → (x : Refusal) → f ≡ Err x → {r : Handed} → r ≡ refusing x → HandedNumbers quality sheets o r ps qs
  search_refused {o} found x e {r} g =
      let y = refused_of quality sheets v (rw e at left) in
      let z = handed_refused quality sheets x (found ∙ ap untried y.0) g in
      rw (ap (λ (s : Sheets). s.players) y.1, ap (λ (s : Sheets). s.qualities) y.1) z

  module _ (n : ℕ) (e : f ≡ Ok n) where
    -- the answer is a number
    told : record { answer = gives n; sheets = record { players = ps; qualities = qs } } ≡ handed_out quality v sheets
    told = rw e at left

    -- the matches
    given : (ms : List MatchState) × (v ≡ gives ms)
    given = given_of quality sheets v told

    -- are what is handed out
    written : record { answer = gives n; sheets = record { players = ps; qualities = qs } } ≡ handed_out quality (gives given.0) sheets
    written = told ∙ ap (λ (u : Outcome (List MatchState)). handed_out quality u sheets) given.1

    -- their seats stand on the sheet
    search_fits : n * each ≤ length ps
    search_fits = seats_fit quality sheets given.0 each (sized given.0 given.1) written

    -- the search gives matches
    search_given : {o : Outcome Found} → o ≡ untried v → HandedNumbers quality sheets o (handing n each 0) ps qs
    search_given found = handed_given quality sheets given.0 each (sized given.0 given.1) written 0 (found ∙ ap untried given.1)

-- ---- the queue that is searched

-- matches of A and B players each seat A + B
all_seated : (s : TeamComposition) (ms : List MatchState) → All (λ m. (length m.a.players ≡ s.a) × (length m.b.players ≡ s.b)) ms → All (λ m. length (seated m) ≡ seats_of s) ms
all_seated s =
    all_so (λ m. (length m.a.players ≡ s.a) × (length m.b.players ≡ s.b)) (λ m. length (seated m) ≡ seats_of s)
    (λ m z. length-append m.a.players m.b.players ∙ rw (z.0, z.1))

-- the entries of a game among so few bookings are within the queue's limit
pub entries_fit : (g : ℕ) (ws : List Booking) → length ws ≤ 64 → ltb 64 (length (map entry_of (eligible g ws))) ≡ false
entries_fit g ws few = rw (length-map (eligible g ws) entry_of) (le-ltb 64 (length (eligible g ws)) (omega (arith, length_keep (λ b. eqb b.game g) ws)))

-- an entry's time is above 2^53 where its booking's is
pub entries_over : (ws : List Booking) → any joined_over (map entry_of ws) ≡ any has_time_over ws
entries_over ws = seek_map entry_of joined_over (λ x. true) false ws

-- ---- the greedy round

-- the checks of the search over the game's entries, and then of the clock, are those of the round
chain : {A : Type 0} (w so : Bool) (o : Outcome Unit) (sh late own : Bool) (v : Outcome A) → w ≡ false → (own ≡ true → late ≡ true) → guarded (guarded (cond so (refused 1) o) (cond sh (refused 3) (cond late (refused 4) (gives tt)))) v ≡ guarded (cond (w || so) (refused 1) (guarded o (cond sh (refused 3) (cond own (refused 4) (gives tt))))) (cond late (refused 4) v)
chain true so o sh late own v e f = never cc
chain false true o sh late own v e f = refl
chain false false (refused n) sh late own v e f = refl
chain false false (gives u) true late own v e f = refl
chain false false (gives u) false true true v e f = refl
chain false false (gives u) false true false v e f = refl
chain false false (gives u) false false true v e f = never (let z : false ≡ true = f refl in cc)
chain false false (gives u) false false false v e f = refl

module _ (ws : List Booking) (few : length ws ≤ 64) (g : ℕ) (q : QueueState) (whole : q ≡ holding (map entry_of (eligible g ws))) (s : TeamComposition) (r : Roster) (clock : ℕ) (sheets : Sheets) {at : ℕ} (heard : at ≡ clock_among clock ws) where
  -- the numbers to be shown, the quality of a match and the check of the search
  abbrev Greedy : Handed → List ℕ → List Float → Type 0
  Greedy = FoundNumbers (greedy r) clock sheets s g ws

  abbrev quality : MatchState → Float
  quality m = quality_of r m.a.players m.b.players

  abbrev check : Outcome Unit
  check = search_check s r q (length sheets.players) (length sheets.qualities)

  abbrev searched : Outcome (List MatchState)
  searched = guarded check (gives (greedy_matches s r q.entries))

  -- what is found stands behind the check and the clock
  greedy_found : findings (greedy r) clock sheets s (map entry_of (eligible g ws)) ws ≡ guarded check (cond (time_over at) (refused 4) (gives (record { matches = greedy_matches s r q.entries; tried = 0 })))
  unfolding findings
  greedy_found =
      rw (whole, heard, entries_over (eligible g ws), ← clock_over clock ws)
      (chain (ltb 64 (length (map entry_of (eligible g ws)))) (sizes_over s) (ratings_check r) (are_short (length sheets.players) (length sheets.qualities)) (time_over (clock_among clock ws)) (any has_time_over (eligible g ws)) _ (entries_fit g ws few) (own_over clock ws g))

  module _ (k : Result Unit Refusal) (checked : outcome_of k ≡ check) where
    -- the check refuses
    pub greedy_refused : (x : Refusal) → k ≡ Err x → {h : Handed} → h ≡ refusing x → Greedy h sheets.players sheets.qualities
    greedy_refused x e f = handed_refused quality sheets x (greedy_found ∙ sym (guard_refuses _ k e checked)) f

    module _ (passed : k ≡ Ok tt) where
      -- the clock is above 2^53
      pub greedy_clock : time_over at ≡ true → {h : Handed} → h ≡ refusing Clock → Greedy h sheets.players sheets.qualities
      greedy_clock l f = handed_refused quality sheets Clock (greedy_found ∙ sym (guard_passes _ k passed checked) ∙ rw l) f

      -- it is not: what is found is what the search gives
      searched_found : time_over at ≡ false → findings (greedy r) clock sheets s (map entry_of (eligible g ws)) ws ≡ untried searched
      searched_found l =
          greedy_found ∙ sym (guard_passes _ k passed checked) ∙ rw l (ap untried (guard_passes (gives (greedy_matches s r q.entries)) k passed checked))

      -- every match seats A + B
      sized : (ms : List MatchState) → searched ≡ gives ms → All (λ m. length (seated m) ≡ seats_of s) ms
      sized ms e =
          let y : ◌≡◌ {A = Outcome (List MatchState)} (gives (greedy_matches s r q.entries)) (gives ms) = (passed_to check (gives (greedy_matches s r q.entries)) e).1 in
          let z : greedy_matches s r q.entries ≡ ms = cc in
          rw (← z) (all_seated s (greedy_matches s r q.entries) (greedy_sized s r q.entries))

      -- what the search left
      module _ (f : Result ℕ Refusal) {ps : List ℕ} {qs : List Float} (left : leaving f ps qs ≡ greedy_rule s r q sheets) where
        -- it refuses
        pub greedy_search_refused : time_over at ≡ false → (x : Refusal) → f ≡ Err x → {h : Handed} → h ≡ refusing x → Greedy h ps qs
        greedy_search_refused l = search_refused quality sheets (seats_of s) searched sized f left (searched_found l)

        module _ (n : ℕ) (e : f ≡ Ok n) where
          -- the seats stand on the sheet
          pub greedy_fits : n * seats_of s ≤ length ps
          greedy_fits = search_fits quality sheets (seats_of s) searched sized f left n e

          -- it gives matches
          pub greedy_given : time_over at ≡ false → Greedy (handing n (seats_of s) 0) ps qs
          greedy_given l = search_given quality sheets (seats_of s) searched sized f left n e (searched_found l)

-- where no game is played, nobody is found, whoever is looked at
pub greedy_of_none : (sizes : List TeamComposition) (r : Roster) (clock : ℕ) (sheets : Sheets) (ws : List Booking) (n : ℕ) → length sizes ≡ 8 → {x : Option ℕ} → game_in n ≡ x →
    findings (greedy r) clock sheets (sizes_for sizes n) (map entry_of (eligible n ws)) ws ≡ findings (greedy r) clock sheets (sizes_by sizes x) (map entry_of (eligible_by x ws)) ws
unfolding findings
greedy_of_none sizes r clock sheets ws n long {x} e =
    rw (← e)
    (cases (eqb n no_game)
    (λ t.
    let none : unused ≡ sizes_for sizes n = sizes_none sizes n long (omega (arith, eqb-true n no_game t)) in
    rw (t, ← none, greedy_none_of_a unused r (map entry_of (eligible n ws)) refl, greedy_none_of_a unused r [] refl))
    (λ f. rw f))

-- ---- the beam round

-- the checks of the search, at the clock that is checked, are those of the round
chain_of_beam : (w over : Bool) (o : Outcome Unit) (sh late own : Bool) (u v : Outcome (List MatchState)) → w ≡ false → (own ≡ true → late ≡ true) → (late ≡ false → u ≡ v) → guarded (guarded (cond over (refused 1) o) (cond sh (refused 3) (cond late (refused 4) (gives tt)))) (untried u) ≡ untried (guarded (cond (w || over) (refused 1) (guarded o (cond sh (refused 3) (cond (late || own) (refused 4) (gives tt))))) v)
chain_of_beam true over o sh late own u v e f g = never cc
chain_of_beam false true o sh late own u v e f g = refl
chain_of_beam false false (refused n) sh late own u v e f g = refl
chain_of_beam false false (gives x) true late own u v e f g = refl
chain_of_beam false false (gives x) false true own u v e f g = refl
chain_of_beam false false (gives x) false false true u v e f g = never (let z : false ≡ true = f refl in cc)
chain_of_beam false false (gives x) false false false u v e f g = ap untried (g refl)

module _ (ws : List Booking) (few : length ws ≤ 64) (g : ℕ) (q : QueueState) (whole : q ≡ holding (map entry_of (eligible g ws))) (s : TeamComposition) (width : ℕ) (objective : MatchObjective) (r : Roster) (clock : ℕ) (sheets : Sheets) {at : ℕ} (heard : at ≡ clock_among clock ws) where
  -- the numbers to be shown, the quality of a match, the matches and the check of the search
  abbrev Beam : Handed → List ℕ → List Float → Type 0
  Beam = FoundNumbers (beam width objective r) clock sheets s g ws

  abbrev beam_quality : MatchState → Float
  beam_quality m = quality_of r m.a.players m.b.players

  abbrev beamed : Outcome (List MatchState)
  beamed = beam_matches (beaming s width objective r q.entries at) q.entries

  abbrev beam_checked : Outcome Unit
  beam_checked = beam_check s width r q at (length sheets.players) (length sheets.qualities)

  -- what is found is what the search gives
  beam_found : findings (beam width objective r) clock sheets s (map entry_of (eligible g ws)) ws ≡ untried (guarded beam_checked beamed)
  unfolding findings
  beam_found =
      rw (whole, heard, entries_over (eligible g ws), ← clock_over clock ws)
      (chain_of_beam (ltb 64 (length (map entry_of (eligible g ws)))) (sizes_over s || ltb 32 width) (deviations_check r) (are_short (length sheets.players) (length sheets.qualities)) (time_over (clock_among clock ws)) (any has_time_over (eligible g ws)) _ _ (entries_fit g ws few) (own_over clock ws g)
      (λ e. ap (λ (t : ℕ). beam_matches (beaming s width objective r (map entry_of (eligible g ws)) t) (map entry_of (eligible g ws))) (sym (clock_kept clock ws e))))

  -- every match seats A + B
  beam_seated : (ms : List MatchState) → guarded beam_checked beamed ≡ gives ms → All (λ m. length (seated m) ≡ seats_of s) ms
  beam_seated ms e = all_seated s ms (beam_sized (beaming s width objective r q.entries at) q.entries ms (passed_to beam_checked beamed e).1)

  -- what the search left
  module _ (f : Result ℕ Refusal) {ps : List ℕ} {qs : List Float} (left : leaving f ps qs ≡ beam_rule s width objective r q at sheets) where
    -- it refuses
    pub beam_refused : (x : Refusal) → f ≡ Err x → {h : Handed} → h ≡ refusing x → Beam h ps qs
    beam_refused = search_refused beam_quality sheets (seats_of s) (guarded beam_checked beamed) beam_seated f left beam_found

    module _ (n : ℕ) (e : f ≡ Ok n) where
      -- the sizes are within their limits
      pub beam_sizes : s.a + s.b ≤ 16
      beam_sizes =
          let y = given beam_quality sheets (seats_of s) (guarded beam_checked beamed) beam_seated f left n e in
          let z = beam_fit s width r q at (length sheets.players) (length sheets.qualities) (passed_to beam_checked beamed y.1).0 in
          omega (arith, z.1, z.2)

      -- the seats stand on the sheet
      pub beam_fits : n * seats_of s ≤ length ps
      beam_fits = search_fits beam_quality sheets (seats_of s) (guarded beam_checked beamed) beam_seated f left n e

      -- it gives matches
      pub beam_given : Beam (handing n (seats_of s) 0) ps qs
      beam_given = search_given beam_quality sheets (seats_of s) (guarded beam_checked beamed) beam_seated f left n e beam_found
