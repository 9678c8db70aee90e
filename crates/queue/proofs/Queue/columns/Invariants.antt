-- Two arrays filled: what is written are the players and the joined times of the first entries.
use Rattle.std.proofs.Common.{◌≡◌, map, length, take}
use Rattle.queue.specs.declared.QueueEntry.{QueueEntry}
use Rattle.queue.proofs.Queue.columns.Given as goal

abbrev pub invariant-loop-k : goal.invariant-loop-k
invariant-loop-k l = (length l.columns.players ≡ 64)
    × (length l.columns.joined ≡ 64)
    × (take l.k l.columns.players ≡ map (λ (e : QueueEntry). e.player) (take l.k l.self.entries))
    × (take l.k l.columns.joined ≡ map (λ (e : QueueEntry). e.joined) (take l.k l.self.entries))
