-- Document 02, 2.1: greedy's statement holds of every list of entries.
use Prim.Native.Nat.{ℕ}
use mathlib.Core.Path.{◌≡◌, refl, sym, ap, ◌∙◌, subst}
use mathlib.Core.List.{List}
use lib.Ieee.{Float}
use lib.ListN.{length}
use Rattle.base.specs.Refusals.{Outcome, refused, gives, guarded}
use Rattle.base.proofs.Cases.{never}
use Rattle.base.proofs.Checks.{passed_to, given}
use Rattle.queue.specs.declared.QueueEntry.{QueueEntry}
use Rattle.queue.specs.Queue.{QueueState, stating}
use Rattle.roster.specs.Roster.{Roster}
use Rattle.matchmaker.specs.Quality.{MatchState, quality_of}
use Rattle.seating.specs.declared.TeamComposition.{TeamComposition}
use Rattle.seating.specs.Seating.{Sheets, handed_out, told_by}
use Rattle.seating.specs.Searching.{search_check}
use Rattle.greedy.specs.Greedy.{greedy_matches, greedy_rule}
use Rattle.seating.specs.Seats.{Seating}
use Rattle.greedy.specs.Copies.{Copied}
use Rattle.greedy.specs.OldCounter.{OldCounter}
use Rattle.seating.proofs.Drawn.{Drawn, told_seating}
use Rattle.greedy.proofs.Drawn.{greedy_drawn}
use Rattle.greedy.proofs.Copies.{greedy_copied}

-- a match's quality, as the search writes it
abbrev quality : Roster → MatchState → Float
quality r m = quality_of r m.a.players m.b.players

-- what a greedy search leaves, told off its sheet
pub greedy_told : (s : TeamComposition) (r : Roster) (q : QueueState) (sheets : Sheets) → Seating s q.entries (told_by s (greedy_rule s r q sheets))
greedy_told s r q sheets =
    let check = search_check s r q (length sheets.players) (length sheets.qualities) in
    told_seating s q.entries (quality r) sheets (guarded check (gives (greedy_matches s r q.entries)))
    (λ ms e. subst (Drawn s q.entries) (given (passed_to check _ e).1) (greedy_drawn s r q.entries))

-- ---- copies

-- a greedy search that is not refused hands out its matches
greedy_hands : (s : TeamComposition) (r : Roster) (q : QueueState) (sheets : Sheets) (n : ℕ) → (greedy_rule s r q sheets).answer ≡ gives n →
    greedy_rule s r q sheets ≡ handed_out (quality r) (gives (greedy_matches s r q.entries)) sheets
greedy_hands s r q sheets n = go (search_check s r q (length sheets.players) (length sheets.qualities))
  where
    go : (check : Outcome (Unit {0})) → (handed_out (quality r) (guarded check (gives (greedy_matches s r q.entries))) sheets).answer ≡ gives n →
        handed_out (quality r) (guarded check (gives (greedy_matches s r q.entries))) sheets ≡ handed_out (quality r) (gives (greedy_matches s r q.entries)) sheets
    go (refused k) e = never cc
    go (gives u) e = refl

-- so with copies put in it leaves the same, where neither queue is refused
pub greedy_rule_copied : (s : TeamComposition) (r : Roster) (queue other : QueueState) (sheets : Sheets) (m n : ℕ) → Copied queue.entries other.entries →
    (greedy_rule s r queue sheets).answer ≡ gives m → (greedy_rule s r other sheets).answer ≡ gives n → greedy_rule s r other sheets ≡ greedy_rule s r queue sheets
greedy_rule_copied s r queue other sheets m n h e f =
    greedy_hands s r other sheets n f
    ∙ ap (λ (ms : List MatchState). handed_out (quality r) (gives ms) sheets) (greedy_copied s r queue.entries other.entries h)
    ∙ sym (greedy_hands s r queue sheets m e)

-- ---- the statement

pub old_counter : (queue : List QueueEntry) → OldCounter queue
old_counter queue =
    record {
      seats = λ s r. (greedy_drawn s r queue).seating;
      call = λ s r n sheets left e. rw e (greedy_told s r (stating n queue) sheets);
      copies = λ s r other h. greedy_copied s r queue other h;
      copies_call = λ s r other m n i j sheets left right h e f a b.
          f ∙ greedy_rule_copied s r (stating m queue) (stating n other) sheets i j h (rw e at a) (rw f at b) ∙ sym e;
    }
