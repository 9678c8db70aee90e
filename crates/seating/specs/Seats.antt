-- Who sits in the matches of a call: document 02, 2.1, of the bare searches, and demand 3, of the rounds of a hall.
use Rattle.std.specs.Prelude.{◌≡◌, List, map, length}
use Rattle.base.specs.Lists.{Distinct, Within, All}
use Rattle.queue.specs.declared.QueueEntry.{QueueEntry}
use Rattle.matchmaker.specs.Quality.{MatchState}
use Rattle.seating.specs.declared.TeamComposition.{TeamComposition}
use Rattle.seating.specs.Seating.{seats}

-- these matches "seat A + B different queued guests and nobody in two matches"
pub record Seating (s : TeamComposition) (queue : List QueueEntry) (ms : List MatchState) : Type 0 where
  -- each has a team of exactly A and one of exactly B
  pub sizes : All (λ m. (length m.a.players ≡ s.a) × (length m.b.players ≡ s.b)) ms
  -- all seats of all matches are different guests': different in a match, and none in two matches
  pub different : Distinct (seats ms)
  -- everyone seated waits in the queue
  pub waiting : Within (seats ms) (map (λ e. e.player) queue)
