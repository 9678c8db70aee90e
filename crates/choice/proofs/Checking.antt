-- What the check of a full round's choice tells by passing.
use Prim.Native.Nat.{ℕ, ◌≤◌}
use mathlib.Core.Path.{◌≡◌, refl}
use mathlib.Core.Bool.{Bool, true, false, cond, ◌||◌}
use mathlib.Core.List.{List}
use native.Mathlib.Omega.{arith}
use borrow.Author.Tests.{ltb-false}
use lib.Dec.{ltb}
use lib.ListN.{length, take}
use lib.Seq.{length-take-le}
use Rattle.base.specs.Lists.{any}
use Rattle.base.specs.Refusals.{Outcome, refused, gives, guarded}
use Rattle.base.proofs.Cases.{never}
use Rattle.base.proofs.Checks.{neither}
use Rattle.queue.specs.declared.QueueEntry.{QueueEntry}
use Rattle.queue.specs.Queue.{joined_over}
use Rattle.roster.specs.Roster.{Roster, rules_check}
use Rattle.constraint.specs.declared.Constraints.{Constraints}
use Rattle.constraint.specs.Refusing.{constraints_over, brought_pairs_check}
use Rattle.seating.specs.declared.TeamComposition.{TeamComposition}
use Rattle.seating.specs.Seating.{sizes_over}
use Rattle.seating.proofs.Laws.{sizes_in_lem}
use Rattle.candidate.specs.Exhaustive.{too_wide}
use Rattle.choice.specs.Full.{choice_check}

passing : (n o : Bool) (x y : Outcome Unit) (l w : Bool) → ◌≡◌ {A = Outcome Unit} (cond n (refused 1) (guarded (cond o (refused 1) (guarded x y)) (cond l (refused 4) (cond w (refused 6) (gives tt))))) (gives tt) → (n ≡ false) × ((o ≡ false) × ((x ≡ gives tt) × (w ≡ false)))
passing true o x y l w h = never cc
passing false true x y l w h = never cc
passing false false (refused n) y l w h = never cc
passing false false (gives u) (refused n) l w h = never cc
passing false false (gives u) (gives v) true w h = never cc
passing false false (gives u) (gives v) false true h = never cc
passing false false (gives u) (gives v) false false h = (refl, (refl, (refl, refl)))

-- the sizes are 8 at most, the roster passes its check, and the queue is of 20 entries at most
pub record Held (r : Roster) (s : TeamComposition) (n : ℕ) : Type 0 where
  pub a : s.a ≤ 8
  pub b : s.b ≤ 8
  pub checked : rules_check r ≡ gives tt
  pub few : n ≤ 20

pub held : (r : Roster) (c : Constraints) (count : ℕ) (s : TeamComposition) (es : List QueueEntry) (n : ℕ) → length es ≡ 64 → choice_check r c count s (record { size = n; entries = take n es }) ≡ gives tt → Held r s n
held r c count s es n long h =
    let g = passing (ltb 64 n) (sizes_over s || (constraints_over c || ltb 8 count)) (rules_check r) (brought_pairs_check c) (any joined_over (take n es)) (too_wide (take n es)) h in
    let z = sizes_in_lem s (neither (sizes_over s) (constraints_over c || ltb 8 count) g.1.0).0 in
    let f = ltb-false 64 n g.0 in
    record {
      a = z.0;
      b = z.1;
      checked = g.1.1.0;
      few = omega (arith, ltb-false 20 (length (take n es)) g.1.1.1, length-take-le n es (omega (arith, f, long)));
    }
