-- A queue is filled: what is written are the entries of the first bookings.
use mathlib.Core.Path.{◌≡◌}
use mathlib.Core.List.{map}
use lib.ListN.{length, take}
use Rattle.hall.specs.Hall.{entry_of}
use Rattle.hall.proofs.waiting.queue_of.Given as goal

abbrev pub invariant-loop-i : goal.invariant-loop-i
invariant-loop-i l = (length l.queue.entries ≡ 64) × (take l.i l.queue.entries ≡ map entry_of (take l.i l.booking-items))
