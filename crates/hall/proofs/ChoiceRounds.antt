-- Laws of the full round over plain lists: its check, its choice, and the choice on the sheets.
use Prim.Native.Nat.{ℕ, ◌*◌, ◌≤◌}
use mathlib.Core.Path.{◌≡◌, refl, sym, ap, ◌∙◌}
use mathlib.Core.Bool.{Bool, true, false, cond}
use mathlib.Core.List.{List, [], ◌∷◌, ◌++◌, map, append-nil}
use Rattle.std.specs.Prelude.{None, Some}
use native.Mathlib.Nat.{not-suc-le-zero}
use native.Mathlib.Omega.{arith}
use borrow.Author.Tests.{ltb-false}
use lib.Dec.{ltb}
use lib.Ieee.{Float}
use lib.ListN.{length, take, drop, set, length-append, length-take}
use Rattle.std.specs.Prelude.{Result}
use Rattle.std.specs.Prelude.{Ok, Err}
use Rattle.base.specs.declared.Refusal.{Refusal}
use Rattle.base.specs.Floats as Floats
use Rattle.base.specs.Lists.{any}
use Rattle.base.specs.Refusals.{Outcome, refused, gives, guarded, refusal_number, outcome_of}
use Rattle.base.proofs.Cases.{never}
use Rattle.base.proofs.Checks.{neither}
use Rattle.queue.specs.Time.{time_over}
use Rattle.queue.specs.Queue.{QueueState, holding}
use Rattle.queue.specs.declared.QueueEntry.{QueueEntry}
use Rattle.roster.specs.Roster.{Roster}
use Rattle.matchmaker.specs.Quality.{MatchState, seated}
use Rattle.objective.specs.declared.soft.SoftObjective.{SoftObjective}
use Rattle.constraint.specs.declared.Constraints.{Constraints}
use Rattle.seating.specs.declared.TeamComposition.{TeamComposition}
use Rattle.seating.specs.Seating.{Sheets, are_short, seats, handed_out}
use Rattle.seating.specs.Steps.{overlaid}
use Rattle.seating.proofs.Laws.{overlaid_fits}
use Rattle.candidate.specs.Exhaustive.{too_wide}
use Rattle.choice.specs.Full.{Terms, Selection, terms, terms_check, chosen, choice_rule}
use Rattle.hall.specs.Games.{eligible}
use Rattle.hall.specs.Hall.{has_time_over, entry_of}
use Rattle.hall.specs.Rounds.{full, selected, findings}
use Rattle.hall.specs.Steps.{clock_among, sheets_and_clock_check, HandedNumbers, FoundNumbers}
use Rattle.hall.specs.declared.Booking.{Booking}
use Rattle.hall.specs.declared.rounds.Handed.{Handed}
use Rattle.hall.proofs.WaitLaws.{clock_over, own_over}
use Rattle.hall.proofs.RoundLaws.{refusing, handed_refused, handed_given, entries_fit, entries_over}

-- ---- the check of the sheets and the clock

-- a check that passes does not refuse
passing : (u : Bool) (rest : Outcome Unit) → gives tt ≡ cond u (refused 3) rest → u ≡ false
passing true rest e = never cc
passing false rest e = refl

-- sheets that pass have the places of a match
pub places_fit : (clock players qualities : ℕ) {k : Result Unit Refusal} → k ≡ Ok tt → outcome_of k ≡ sheets_and_clock_check clock players qualities → (16 ≤ players) × (1 ≤ qualities)
places_fit clock players qualities e g =
    let p = passing (are_short players qualities) (cond (time_over clock) (refused 4) (gives tt)) (sym (ap outcome_of e) ∙ g) in
    let y = neither (ltb players 64) (ltb qualities 64) p in
    (omega (arith, ltb-false players 64 y.0), omega (arith, ltb-false qualities 64 y.1))

-- ---- the choice on the sheets

-- a first place that is written
set_first : (xs : List Float) (x : Float) → 1 ≤ length xs → set xs 0 x ≡ x ∷ drop 1 xs
set_first [] x h = absurd (not-suc-le-zero h)
set_first (y ∷ xs) x h = refl

-- a full round gives quality 0.0
abbrev quality : MatchState → Float
quality m = Floats.zero

module _ (sheets : Sheets) {v : Outcome Selection} where
  -- a refusal
  pub choice_refused : (x : Refusal) → v ≡ refused (refusal_number x) → {r : Handed} → r ≡ refusing x → HandedNumbers quality sheets (selected v) r sheets.players sheets.qualities
  choice_refused x e g = handed_refused quality sheets x (ap selected e) g

  -- no choice passes
  pub choice_none : {n : ℕ} → v ≡ gives (record { best = None; tried = n }) → HandedNumbers quality sheets (selected v) (record { count = 0; seats = 0; tried = n; refusal = 0 }) sheets.players sheets.qualities
  unfolding seats
  choice_none {n} e = rw e (record { handed = refl; count = refl; tried = refl; fits = omega arith; seated = refl })

  -- a choice stands on the sheets
  pub choice_given : (m : MatchState) {n : ℕ} → v ≡ gives (record { best = Some m; tried = n }) → length (seated m) ≤ length sheets.players → 1 ≤ length sheets.qualities → {ps : List ℕ} {qs : List Float} → ps ≡ overlaid (seated m) sheets.players → qs ≡ set sheets.qualities 0 Floats.zero → {each : ℕ} → each ≡ length (seated m) → HandedNumbers quality sheets (selected v) (record { count = 1; seats = each; tried = n; refusal = 0 }) ps qs
  unfolding seats
  choice_given m {n} e room space {ps} {qs} p q {each} held =
      let a : ps ≡ seated m ++ drop (length (seated m)) sheets.players = p ∙ overlaid_fits (seated m) sheets.players room in
      let b : qs ≡ Floats.zero ∷ drop 1 sheets.qualities = q ∙ set_first sheets.qualities Floats.zero space in
      let h : record { answer = gives 1; sheets = record { players = ps; qualities = qs } } ≡ handed_out quality (gives (m ∷ [])) sheets = rw (append-nil (seated m), a, b) in
      let k : 1 * each ≡ each = omega arith in
      rw k at (handed_given quality sheets (m ∷ []) each (sym held, tt) h n (ap selected e))

-- two teams of 8 at most seat 16 at most
pub seated_most : (x y : List ℕ) (l m : ℕ) → length x ≡ 8 → length y ≡ 8 → length (take l x ++ take m y) ≤ 16
seated_most x y l m e f = omega (arith, length-append (take l x) (take m y), length-take l x, length-take m y)

-- ---- the checks of the round

-- refused for its sheets or its clock: the refusal is that of the terms, or else this
stopped : (o : Outcome Unit) (sh late wide : Bool) (v : Outcome Selection) {n m : ℕ} → ◌≡◌ {A = Outcome Unit} (refused n) (cond sh (refused 3) (cond late (refused 4) (gives tt))) → ◌≡◌ {A = Outcome Unit} (refused m) (guarded o (refused n)) →
    guarded (guarded o (cond sh (refused 3) (cond late (refused 4) (cond wide (refused 6) (gives tt))))) (selected v) ≡ refused m
stopped (refused i) sh late wide v e g = cc
stopped (gives u) true late wide v e g = cc
stopped (gives u) false true wide v e g = cc
stopped (gives u) false false wide v e g = never cc

-- not refused for these: the choice's own checks are those of the round
unstopped : (w : Bool) (o : Outcome Unit) (sh late own wide : Bool) (v : Outcome Selection) → w ≡ false → (own ≡ true → late ≡ true) → ◌≡◌ {A = Outcome Unit} (gives tt) (cond sh (refused 3) (cond late (refused 4) (gives tt))) →
    guarded (guarded o (cond sh (refused 3) (cond late (refused 4) (cond wide (refused 6) (gives tt))))) (selected v)
    ≡ selected (guarded (cond w (refused 1) (guarded o (cond own (refused 4) (cond wide (refused 6) (gives tt))))) v)
unstopped true o sh late own wide v e f p = never cc
unstopped false o true late own wide v e f p = never cc
unstopped false o false true own wide v e f p = never cc
unstopped false (refused n) false false own wide v e f p = refl
unstopped false (gives u) false false true wide v e f p = never (let z : false ≡ true = f refl in cc)
unstopped false (gives u) false false false true v e f p = refl
unstopped false (gives u) false false false false v e f p = refl

module _ (s : TeamComposition) (c : Constraints) (friends : Bool) (objectives : List SoftObjective) (count : ℕ) (r : Roster) (clock : ℕ) (sheets : Sheets) (g : ℕ) (ws : List Booking) (few : length ws ≤ 64) {at : ℕ} (heard : at ≡ clock_among clock ws) where
  -- the terms, the numbers to be shown and the queue
  abbrev given : Terms
  given = terms r c friends objectives count

  abbrev Full : Handed → List ℕ → List Float → Type 0
  Full = FoundNumbers (full given) clock sheets s g ws

  abbrev own : List QueueEntry
  own = map entry_of (eligible g ws)

  module _ (k : Result Unit Refusal) (checked : outcome_of k ≡ sheets_and_clock_check at (length sheets.players) (length sheets.qualities)) where
    -- the check refuses: the answer is the terms' refusal, or else the check's
    pub full_refused : (x : Refusal) → k ≡ Err x → (y : Refusal) → ◌≡◌ {A = Outcome Unit} (refused (refusal_number y)) (guarded (terms_check r c count s) (refused (refusal_number x))) → {h : Handed} → h ≡ refusing y → Full h sheets.players sheets.qualities
    unfolding findings
    full_refused x e y f i =
        let z =
        stopped (terms_check r c count s) (are_short (length sheets.players) (length sheets.qualities)) (time_over (clock_among clock ws)) (too_wide own) (chosen given s own)
        (rw heard at (sym (ap outcome_of e) ∙ checked)) f in
        handed_refused quality sheets y (rw (← clock_over clock ws) z) i

    -- the check passes: what is found is the choice
    full_found : k ≡ Ok tt → findings (full given) clock sheets s own ws ≡ selected (choice_rule given s (holding own))
    unfolding findings
    full_found e =
        rw (entries_over (eligible g ws), ← clock_over clock ws)
        (unstopped (ltb 64 (length own)) (terms_check r c count s)
        (are_short (length sheets.players) (length sheets.qualities)) (time_over (clock_among clock ws)) (any has_time_over (eligible g ws)) (too_wide own) (chosen given s own) (entries_fit g ws few) (own_over clock ws g) (rw heard at (sym (ap outcome_of e) ∙ checked)))

    -- the check passes: the choice decides
    pub full_given : k ≡ Ok tt → {q : QueueState} → q ≡ holding own → {v : Outcome Selection} → v ≡ choice_rule given s q → {h : Handed} {ps : List ℕ} {qs : List Float} → HandedNumbers quality sheets (selected v) h ps qs → Full h ps qs
    full_given e {q} w {v} i {h} {ps} {qs} z =
        let k : selected v ≡ findings (full given) clock sheets s own ws = ap selected (i ∙ ap (choice_rule given s) w) ∙ sym (full_found e) in
        rw k at z
