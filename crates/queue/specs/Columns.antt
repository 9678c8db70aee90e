-- What is read of all places of a queue at once. Only fast paths and proofs need it; document 01's own functions don't cite it.
use Rattle.std.specs.Prelude.{map}
use Rattle.std.specs.Float.{nan}
use Rattle.queue.specs.declared.QueueEntry.{QueueEntry}
use Rattle.queue.specs.declared.Queue.{Queue}
use Rattle.queue.specs.declared.Columns.{Columns}

-- who waits at each place, and since when
abbrev pub columns_of : Queue → Columns
columns_of q = record { players = map (λ e. e.player) q.entries; joined = map (λ e. e.joined) q.entries }

-- what is read past the end of an array of entries
abbrev pub no_entry : QueueEntry
no_entry = record { player = 0; joined = 0; rating = nan; party = 0; role = 0 }
