-- Document 01, "What the counter says no to": refusals 1, 2, 3 and 4 of a queue, sizes, a roster and sheets, as greedy search and the
-- nearest generator check them.
use Rattle.std.specs.Prelude.{ℕ, cond, ◌||◌, ltb}
use Rattle.base.specs.Refusals.{Outcome, refused, gives, guarded}
use Rattle.base.specs.Lists.{any}
use Rattle.queue.specs.Queue.{QueueState, joined_over}
use Rattle.roster.specs.Roster.{Roster, ratings_check}
use Rattle.seating.specs.declared.TeamComposition.{TeamComposition}
use Rattle.seating.specs.Seating.{sizes_over, are_short}

-- refusals 1, 2, 3 and 4; of the sheets only the lengths count
abbrev pub search_check : TeamComposition → Roster → QueueState → ℕ → ℕ → Outcome Unit
search_check s r q players qualities =
    cond (ltb 64 q.size || sizes_over s) (refused 1)
    (guarded (ratings_check r) (cond (are_short players qualities) (refused 3) (cond (any joined_over q.entries) (refused 4) (gives tt))))
