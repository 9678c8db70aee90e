-- What the check of a search tells by passing, and that it is the first check and then that of the entries.
use Prim.Native.Nat.{ℕ, ◌≤◌}
use mathlib.Core.Path.{◌≡◌, refl}
use mathlib.Core.Bool.{Bool, true, false, cond, ◌||◌}
use borrow.Author.Tests.{ltb-false}
use lib.Dec.{ltb}
use Rattle.std.specs.Prelude.{Result}
use Rattle.base.specs.declared.Refusal.{Refusal}
use Rattle.std.specs.Prelude.{Ok}
use Rattle.base.specs.Lists.{any}
use Rattle.base.specs.Refusals.{Outcome, refused, gives, guarded, outcome_of}
use Rattle.base.proofs.Cases.{never}
use Rattle.base.proofs.Checks.{neither}
use Rattle.queue.specs.Queue.{QueueState, joined_over}
use Rattle.roster.specs.Roster.{Roster, ratings_check}
use Rattle.seating.specs.declared.TeamComposition.{TeamComposition}
use Rattle.seating.specs.Seating.{sizes_over, are_short}
use Rattle.seating.specs.Searching.{search_check}
use Rattle.seating.specs.Steps.{first_check}

-- the queue, the sizes and the sheets are within their limits
pub record Held (s : TeamComposition) (q : QueueState) (players qualities : ℕ) : Type 0 where
  pub queue : q.size ≤ 64
  pub a : s.a ≤ 8
  pub b : s.b ≤ 8
  pub players_fit : 64 ≤ players
  pub qualities_fit : 64 ≤ qualities

-- a whole check that passes met neither refusal 1 nor 3
passing : (t : Bool) (o : Outcome Unit) (u l : Bool) → ◌≡◌ {A = Outcome Unit} (gives tt) (cond t (refused 1) (guarded o (cond u (refused 3) (cond l (refused 4) (gives tt))))) → (t ≡ false) × (u ≡ false)
passing true o u l h = never cc
passing false (refused n) u l h = never cc
passing false (gives v) true l h = never cc
passing false (gives v) false l h = (refl, refl)

-- nor did a first check that passes
passing_first : (t : Bool) (o : Outcome Unit) (u : Bool) → ◌≡◌ {A = Outcome Unit} (gives tt) (cond t (refused 1) (guarded o (cond u (refused 3) (gives tt)))) → (t ≡ false) × (u ≡ false)
passing_first true o u h = never cc
passing_first false (refused n) u h = never cc
passing_first false (gives v) true h = never cc
passing_first false (gives v) false h = (refl, refl)

-- where neither is met all is within its limits
held_of : (s : TeamComposition) (q : QueueState) (players qualities : ℕ) → ((ltb 64 q.size || sizes_over s) ≡ false) × (are_short players qualities ≡ false) → Held s q players qualities
held_of s q players qualities g =
    let x = neither (ltb 64 q.size) (sizes_over s) g.0 in
    let y = neither (ltb 8 s.a) (ltb 8 s.b) x.1 in
    let z = neither (ltb players 64) (ltb qualities 64) g.1 in
    record {
      queue = ltb-false 64 q.size x.0;
      a = ltb-false 8 s.a y.0;
      b = ltb-false 8 s.b y.1;
      players_fit = ltb-false players 64 z.0;
      qualities_fit = ltb-false qualities 64 z.1;
    }

-- what a check that passes tells
pub passed_check : (s : TeamComposition) (r : Roster) (q : QueueState) (players qualities : ℕ) (k : Result Unit Refusal) → k ≡ Ok tt → outcome_of k ≡ search_check s r q players qualities → Held s q players qualities
passed_check s r q players qualities k e h =
    let p : gives tt ≡ search_check s r q players qualities = rw e at h in
    held_of s q players qualities (passing (ltb 64 q.size || sizes_over s) (ratings_check r) (are_short players qualities) (any joined_over q.entries) p)

-- ---- the joined times come behind all other refusals

-- what stands behind refusal 4 may stand behind the whole check
first_rest : {A : Type 0} (t : Bool) (o : Outcome Unit) (u l : Bool) (v : Outcome A) →
    guarded (cond t (refused 1) (guarded o (cond u (refused 3) (gives tt)))) (cond l (refused 4) v) ≡ guarded (cond t (refused 1) (guarded o (cond u (refused 3) (cond l (refused 4) (gives tt))))) v
first_rest true o u l v = refl
first_rest false (refused n) u l v = refl
first_rest false (gives x) true l v = refl
first_rest false (gives x) false true v = refl
first_rest false (gives x) false false v = refl

-- what comes behind a first check that passes is the end of the check
whole_check : (t : Bool) (o : Outcome Unit) (u : Bool) (rest : Outcome Unit) →
    guarded (cond t (refused 1) (guarded o (cond u (refused 3) (gives tt)))) rest ≡ cond t (refused 1) (guarded o (cond u (refused 3) rest))
whole_check true o u rest = refl
whole_check false (refused n) u rest = refl
whole_check false (gives x) true rest = refl
whole_check false (gives x) false rest = refl

module _ {A : Type 0} (v : Outcome A) {l : Bool} where
  -- refusal 4 where a joined time is over its limit
  pub time_over_lem : l ≡ true → refused 4 ≡ cond l (refused 4) v
  time_over_lem e = rw e

  -- and else what comes behind
  pub in_time : l ≡ false → v ≡ cond l (refused 4) v
  in_time e = rw e

module _ (s : TeamComposition) (r : Roster) (q : QueueState) (players qualities : ℕ) where
  -- the whole check is the first, and then that of the entries
  pub check_first : guarded (first_check s r q.size players qualities) (cond (any joined_over q.entries) (refused 4) (gives tt)) ≡ search_check s r q players qualities
  check_first = whole_check (ltb 64 q.size || sizes_over s) (ratings_check r) (are_short players qualities) (cond (any joined_over q.entries) (refused 4) (gives tt))

  -- what comes behind the whole check comes behind that of the entries, and this behind the first
  pub behind_first : {A : Type 0} (v : Outcome A) → guarded (first_check s r q.size players qualities) (cond (any joined_over q.entries) (refused 4) v) ≡ guarded (search_check s r q players qualities) v
  behind_first v = first_rest (ltb 64 q.size || sizes_over s) (ratings_check r) (are_short players qualities) (any joined_over q.entries) v

  -- what a first check that passes tells
  pub passed_first : (k : Result Unit Refusal) → k ≡ Ok tt → outcome_of k ≡ first_check s r q.size players qualities → Held s q players qualities
  passed_first k e h =
      let p : gives tt ≡ first_check s r q.size players qualities = rw e at h in
      held_of s q players qualities (passing_first (ltb 64 q.size || sizes_over s) (ratings_check r) (are_short players qualities) p)
