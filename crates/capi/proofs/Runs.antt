-- From what the exported calls promise to demand 3, and to what older notes answer: each is a call that met its promise, so a chain of them is a run
-- of the hall.
use Prim.Native.Nat.{ℕ}
use mathlib.Core.Path.{◌≡◌, sym, subst}
use mathlib.Core.Bool.{true, false}
use mathlib.Core.List.{List}
use lib.Ieee.{Float}
use lib.ListN.{take}
use Rattle.base.specs.Refusals.{Outcome}
use Rattle.base.specs.Lists.{any}
use Rattle.seating.specs.declared.TeamComposition.{TeamComposition}
use Rattle.hall.specs.declared.Hall.{Hall}
use Rattle.hall.specs.Hall.{HallState, hall_of, empty, is_over, Deed, keyed_rule}
use Rattle.hall.specs.Rounds.{RoundCall, round_rule}
use Rattle.demand.specs.Calls.{Call, keyed, round, no_kind, Answer, answered, rounded}
use Rattle.demand.specs.Older.{NotedBefore, AsBefore}
use Rattle.demand.specs.Runs.{Met, keyed_met, round_met, no_kind_met, Run, Kept, KeptFrom}
use Rattle.demand.proofs.Older.{stated}
use Rattle.demand.proofs.Runs.{demand3_of_runs, older_of_runs}
use Rattle.capi.specs.Scores.{is_no_kind}
use Rattle.capi.specs.Halls.{turn_in, round_in, RoundNumbers, full_rule}
use Rattle.capi.specs.declared.halls.Keyed.{Keyed}
use Rattle.capi.specs.declared.halls.Rounded.{Rounded}
use Rattle.capi.specs.declared.scores.SoftObjectives.{SoftObjectives}

-- an exported booking or withdrawal met the hall's promise
pub keyed_export_met : (h : HallState) (k : ℕ) (d : Deed) (r : Keyed) → turn_in r ≡ keyed_rule h k d →
    Met h (keyed k d) (answered (turn_in r).answer) (hall_of r.hall)
keyed_export_met h k d r e = keyed_met (turn_in r) e

module _ (h : HallState) (c : RoundCall) (r : Rounded) (ps : List ℕ) (qs : List Float) where
  -- an exported greedy or beam round, or a dispatch, met the hall's promise
  pub round_export_met : RoundNumbers (round_rule h c) r ps qs → Met h (round c) (rounded (round_in r ps qs)).answer (hall_of r.hall)
  round_export_met n = round_met (round_in r ps qs) n.turn

  -- so did an exported full round whose listed codes are all kinds
  pub full_export_met : (g : ℕ) (o : SoftObjectives) → any is_no_kind (take o.len o.kinds) ≡ false → RoundNumbers (full_rule h g o c) r ps qs →
      Met h (round c) (rounded (round_in r ps qs)).answer (hall_of r.hall)
  full_export_met g o e n = round_met (round_in r ps qs) (rw e at n).turn

  -- and one with a code that is no kind, which is turned away
  pub no_kind_export_met : (g : ℕ) (o : SoftObjectives) → any is_no_kind (take o.len o.kinds) ≡ true → RoundNumbers (full_rule h g o c) r ps qs →
      Met h (no_kind g c.sheets) (rounded (round_in r ps qs)).answer (hall_of r.hall)
  no_kind_export_met g o e n = no_kind_met (round_in r ps qs) (rw e at n).turn

-- demand 3 of every run from the exported empty hall
pub demand3_of_exports : (sizes : List TeamComposition) (start : Hall) → hall_of start ≡ empty sizes → (calls : List Call) (rs : List Answer) (l : HallState) →
    Run (hall_of start) calls rs l → Kept sizes calls rs l
demand3_of_exports sizes start e calls rs l run = demand3_of_runs sizes calls rs l (subst (λ (h : HallState). Run h calls rs l) e run)

-- from a hall in memory that is not over its limits, a note of which only the guest was noted answers as before in the hall that a run leaves
pub older_of_exports : (start : Hall) (calls : List Call) (rs : List Answer) (l : HallState) → Run (hall_of start) calls rs l → is_over (hall_of start) ≡ false →
    (k guest : ℕ) (a : Outcome (Unit {0})) → NotedBefore (hall_of start) k guest a → AsBefore l k guest a
older_of_exports start calls rs l run within k guest a n =
    let kept : KeptFrom (hall_of start) calls rs l = older_of_runs (hall_of start) calls rs l run in
    subst (λ (h : HallState). AsBefore h k guest a) (sym kept.told.left) (kept.older.answers (stated start) within k guest a n)
