-- Document 02, 2.1, "Queues from the old counter", of greedy search: one statement over any list of entries, with doubles, with
-- different ratings for one guest, of any length. The beam's part stands in its own crate.
use Rattle.std.specs.Prelude.{ℕ, ◌≡◌, List}
use Rattle.base.specs.Refusals.{gives}
use Rattle.queue.specs.declared.QueueEntry.{QueueEntry}
use Rattle.queue.specs.Queue.{stating}
use Rattle.greedy.specs.Copies.{Copied}
use Rattle.roster.specs.Roster.{Roster}
use Rattle.seating.specs.declared.TeamComposition.{TeamComposition}
use Rattle.seating.specs.Seating.{Sheets, HandedOut, told_by}
use Rattle.seating.specs.Seats.{Seating}
use Rattle.greedy.specs.Greedy.{greedy_matches, greedy_rule}

pub record OldCounter (queue : List QueueEntry) : Type 0 where
  -- "greedy .. matches seat A + B different queued guests and nobody in two matches"
  pub seats : (s : TeamComposition) (r : Roster) → Seating s queue (greedy_matches s r queue)
  -- so do the matches on the guests' sheet after a call. `left` is what the call leaves, its answer beside its sheets at the end: by the
  -- contract of `GreedySearch::search` that is what the rule says
  pub call : (s : TeamComposition) (r : Roster) (n : ℕ) (sheets : Sheets) (left : HandedOut) →
      left ≡ greedy_rule s r (stating n queue) sheets → Seating s queue (told_by s left)
  -- "adding later copies of an entry with the same guest and rating bits leaves every match the same"
  pub copies : (s : TeamComposition) (r : Roster) (other : List QueueEntry) → Copied queue other → greedy_matches s r other ≡ greedy_matches s r queue
  -- so two calls of `GreedySearch::search` on equal sheets, "where neither queue is refused", leave the same: count and both sheets
  pub copies_call : (s : TeamComposition) (r : Roster) (other : List QueueEntry) (m n i j : ℕ) (sheets : Sheets) (left right : HandedOut) → Copied queue other →
      left ≡ greedy_rule s r (stating m queue) sheets → right ≡ greedy_rule s r (stating n other) sheets →
      left.answer ≡ gives i → right.answer ≡ gives j → right ≡ left
