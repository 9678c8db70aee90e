-- What greedy search draws from any queue, doubles included.
use mathlib.Core.List.{List}
use Rattle.queue.specs.declared.QueueEntry.{QueueEntry}
use Rattle.roster.specs.Roster.{Roster}
use Rattle.seating.specs.declared.TeamComposition.{TeamComposition}
use Rattle.seating.proofs.Telling.{lined_up}
use Rattle.greedy.specs.Greedy.{greedy_matches}
use Rattle.base.proofs.All.{all_so}
use Rattle.greedy.proofs.Seats.{greedy_sized, greedy_stated, greedy_different, greedy_queued}
use Rattle.seating.proofs.Drawn.{Drawn}

-- greedy's matches
pub greedy_drawn : (s : TeamComposition) (r : Roster) (queue : List QueueEntry) → Drawn s queue (greedy_matches s r queue)
greedy_drawn s r queue =
    record {
      seating = record { sizes = greedy_sized s r queue; different = greedy_different s r queue; waiting = greedy_queued s r queue };
      lined = all_so _ _ lined_up (greedy_matches s r queue) (greedy_stated s r queue);
    }
