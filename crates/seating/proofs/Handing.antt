-- What a call hands out: a refusal beside untouched sheets, or matches written to sheets that have room for them.
use Prim.Native.Nat.{ℕ, ◌≤◌}
use mathlib.Core.Path.{◌≡◌, ap, ◌∙◌}
use mathlib.Core.List.{List, map}
use lib.Ieee.{Float}
use lib.ListN.{length, length-map}
use Rattle.std.specs.Prelude.{Result}
use Rattle.std.specs.Prelude.{Ok, Err}
use Rattle.base.specs.declared.Refusal.{Refusal}
use Rattle.base.specs.Refusals.{Outcome, refused, gives, guarded, refusal_number, outcome_of}
use Rattle.base.proofs.Checks.{guard_refuses, guard_passes}
use Rattle.matchmaker.specs.Quality.{MatchState}
use Rattle.seating.specs.Seating.{Sheets, HandedOut, seats, handed_out}
use Rattle.seating.specs.Steps.{overlaid}
use Rattle.seating.proofs.Laws.{overlaid_fits}

module _ (quality : MatchState → Float) (s : Sheets) where
  module _ (v : Outcome (List MatchState)) (k : Result Unit Refusal) {o : Outcome Unit} (h : outcome_of k ≡ o) where
    -- a check that refuses is handed out, and the sheets stay
    pub handed_refused : {x : Refusal} → k ≡ Err x → record { answer = refused (refusal_number x); sheets = s } ≡ handed_out quality (guarded o v) s
    handed_refused e = ap (λ (w : Outcome (List MatchState)). handed_out quality w s) (guard_refuses v k e h)

    -- a check that passes leaves it to what comes behind it
    pub handed_on : {w : HandedOut} → k ≡ Ok tt → w ≡ handed_out quality v s → w ≡ handed_out quality (guarded o v) s
    handed_on e g = g ∙ ap (λ (u : Outcome (List MatchState)). handed_out quality u s) (guard_passes v k e h)

  -- matches whose players and qualities both have room stand at the front of the sheets
  pub handed_out_lem : (ms : List MatchState) {n : ℕ} {players : List ℕ} {row qualities : List Float} → n ≡ length ms → length (seats ms) ≤ length s.players → length ms ≤ length s.qualities → players ≡ overlaid (seats ms) s.players → row ≡ map quality ms → qualities ≡ overlaid row s.qualities → record { answer = gives n; sheets = record { players = players; qualities = qualities } } ≡ handed_out quality (gives ms) s
  handed_out_lem ms e room space p h q =
      let l : length (map quality ms) ≤ length s.qualities = rw (length-map ms quality) space in
      let a = p ∙ overlaid_fits (seats ms) s.players room in
      let b = q ∙ ap (λ (r : List Float). overlaid r s.qualities) h ∙ overlaid_fits (map quality ms) s.qualities l in
      rw (e, a, b)
