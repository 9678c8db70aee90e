-- Three arrays filled: what the entries so far have.
use mathlib.Core.Path.{◌≡◌}
use mathlib.Core.List.{map}
use lib.ListN.{length, take}
use Rattle.queue.specs.declared.QueueEntry.{QueueEntry}
use Rattle.greedy.proofs.read.Given as goal

abbrev pub invariant-loop-i : goal.invariant-loop-i
invariant-loop-i l = (length l.entered ≡ 64)
    × (take l.i l.players ≡ map (λ (e : QueueEntry). e.player) (take l.i l.queue.entries))
    × (take l.i l.entered ≡ map (λ (e : QueueEntry). e.rating) (take l.i l.queue.entries))
    × (take l.i l.joined ≡ map (λ (e : QueueEntry). e.joined) (take l.i l.queue.entries))
