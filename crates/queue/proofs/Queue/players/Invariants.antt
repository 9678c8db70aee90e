-- An array filled: what is written are the players of the first entries.
use Rattle.std.proofs.Common.{◌≡◌, map, length, take}
use Rattle.queue.specs.declared.QueueEntry.{QueueEntry}
use Rattle.queue.proofs.Queue.players.Given as goal

abbrev pub invariant-loop-i : goal.invariant-loop-i
invariant-loop-i l = (length l.ids ≡ 64) × (take l.i l.ids ≡ map (λ (e : QueueEntry). e.player) (take l.i l.self.entries))
