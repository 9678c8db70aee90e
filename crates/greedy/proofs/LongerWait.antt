-- Document 02, 2.2: what is established of any queue's picks.
use mathlib.Core.List.{List}
use Rattle.queue.specs.declared.QueueEntry.{QueueEntry}
use Rattle.queue.specs.Queue.{without_all}
use Rattle.greedy.specs.LongerWait.{LongerWait}
use Rattle.greedy.proofs.Picks.{nearest_picked, foremost_one}
use Rattle.greedy.proofs.InOrder.{in_order}
use Rattle.greedy.proofs.Joining.{as_ordered}

pub longer_wait : (queue : List QueueEntry) → LongerWait queue
longer_wait queue =
    record {
      pick = λ reference used. nearest_picked reference used queue;
      only = λ reference used. foremost_one reference (without_all used queue);
      as_ordered = as_ordered queue;
      in_order = in_order queue;
    }
