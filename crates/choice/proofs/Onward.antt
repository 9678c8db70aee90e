-- The walk over columns, whatever roster and constraints they stand for: each choice is weighed by its sums and its tally, and what is left
-- of the row still gives the answer.
use Prim.Native.Nat.{ℕ, ◌+◌, ◌≤◌, ◌<◌}
use mathlib.Core.Path.{◌≡◌, ◌∙◌}
use mathlib.Core.Bool.{Bool, false, cond}
use mathlib.Core.List.{List}
use lib.Dec.{ltb}
use lib.Ieee.{Float, nan}
use lib.ListN.{length, take, drop, get_or}
use Rattle.base.proofs.Members.{member_at}
use Rattle.queue.specs.declared.QueueEntry.{QueueEntry}
use Rattle.roster.specs.Roster.{Roster}
use Rattle.matchmaker.specs.Quality.{MatchState, seated}
use Rattle.objective.specs.declared.soft.SoftObjective.{SoftObjective}
use Rattle.constraint.specs.declared.Constraints.{Constraints}
use Rattle.seating.specs.declared.TeamComposition.{TeamComposition}
use Rattle.seating.specs.Seating.{seats_of}
use Rattle.candidate.specs.Walks.{seated_next, through}
use Rattle.choice.specs.Full.{terms, passes}
use Rattle.choice.specs.Reading.{Columns, StandFor}
use Rattle.choice.specs.Steps.{SoFar, passed, skipped, weighed}
use Rattle.choice.specs.Sums.{sums_with, score_by, Summing}
use Rattle.choice.specs.Tallies.{tally_with, fits, Tallying, Walked}
use Rattle.choice.specs.declared.Sums.{Sums}
use Rattle.choice.specs.declared.tally.Bounds.{Bounds}
use Rattle.choice.specs.declared.tally.Tally.{Tally}
use Rattle.choice.proofs.Summing.{grown_read, filling_with, full, full_score}
use Rattle.choice.proofs.TallyLaws.{tally_with_lem, tally_fits}
use Rattle.choice.proofs.Lasting.{walk_end}

-- the counts of a tally grow by those of the place
pub counts_with : (t : Tally) (first admits : Bool) (counts same expected foes : ℕ) {next : Tally} → next ≡ tally_with t first admits counts same expected foes → next.counts ≡ t.counts + counts
unfolding tally_with
counts_with t first admits counts same expected foes e = rw e

module _ (r : Roster) (c : Constraints) (on : Bool) (es : List QueueEntry) (x : Columns) (b : Bounds) (stands : StandFor r c on es x b) (s : TeamComposition) (in-a : s.a ≤ 8) (in_b : s.b ≤ 8) where
  -- a match that is full is weighed by its tally and by the score of its sums
  pub whole_weighed : (objectives : List SoftObjective) (count : ℕ) (best : SoFar) (m : MatchState) (sums : Sums) (tally : Tally) {fine : Bool} {score : Float} → Summing r s m sums → Tallying r c on s es m tally → length (seated m) ≡ seats_of s
      → fine ≡ fits b tally → score ≡ score_by (take count objectives) sums s.a s.b → cond fine (passed best m score) (skipped best) ≡ weighed (terms r c on objectives count) es best m
  unfolding weighed
  whole_weighed objectives count best m sums tally {fine} {score} fills counts h e f =
      let sizes = full r s m sums fills h in
      let y : fine ≡ passes (terms r c on objectives count) es m = e ∙ tally_fits r c on s es m tally counts sizes.0 sizes.1 stands.checked in-a in_b stands.bounds in
      let z = f ∙ full_score r s m sums (take count objectives) fills h in
      rw (y, z)

  -- the player at a place is seated next
  module _ (m : MatchState) (sums : Sums) (tally : Tally) (at : ℕ) (fills : Summing r s m sums) (counts : Tallying r c on s es m tally) (room : length (seated m) < seats_of s) (near : at < length es) (there : at < length x.queued)
      {first : Bool} {with : MatchState} (e : first ≡ ltb (length m.a.players) s.a) (f : with ≡ seated_next s m (get_or x.queued at 0)) where
    pub next_sums : {next : Sums} → next ≡ sums_with sums first (get_or x.rows at false) (get_or x.rated at nan) → Summing r s with next
    next_sums g =
        filling_with r (get_or x.queued at 0) (get_or x.rows at false) (get_or x.rated at nan) (grown_read (stands.says at near)) s m sums fills in-a in_b room e f g

    pub next_tally : {next : Tally} → next ≡ tally_with tally first (get_or x.admits at false) (get_or x.counts at 0) (get_or x.same at 0) (get_or x.expected at 0) (get_or x.foes at 0) → Tallying r c on s es with next
    next_tally g =
        tally_with_lem r c on s es m tally sums (get_or x.queued at 0) x at counts fills in-a in_b room (rw stands.queued at (member_at (length es) x.queued at near there)) (stands.says at near) e f g

module _ (s : TeamComposition) (x : Columns) (b : Bounds) (from rest k : ℕ) (m : MatchState) (sums : Sums) (tally : Tally) (objectives : List SoftObjective) (count : ℕ) (best : SoFar) where
  -- the choices of the `left` places from `at` on, with this best so far, still give the answer
  abbrev pub Onward : ℕ → ℕ → SoFar → Type 0
  Onward at left out =
      (r : Roster) (c : Constraints) (on : Bool) (es : List QueueEntry) → from + rest ≤ length es → StandFor r c on es x b → Summing r s m sums → Tallying r c on s es m tally
      → through s (weighed (terms r c on objectives count) es) m k (take left (drop at x.queued)) out ≡ through s (weighed (terms r c on objectives count) es) m k (take rest (drop from x.queued)) best

  -- too few are left
  pub onward_end : (at left : ℕ) (out : SoFar) → Onward at left out → left < k → Walked s x b from rest k m sums tally objectives count best out
  onward_end at left out inv h r c on es l stands fills counts =
      walk_end s (weighed (terms r c on objectives count) es) x.queued m k at left out (inv r c on es l stands fills counts) h
