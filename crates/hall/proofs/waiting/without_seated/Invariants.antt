-- A row is written from another: it holds who stays so far, and the rest gives what is missing.
use mathlib.Core.Path.{◌≡◌}
use mathlib.Core.List.{◌++◌}
use Prim.Native.Nat.{◌≤◌}
use lib.ListN.{length, take, drop}
use Rattle.hall.specs.Hall.{without_guests}
use Rattle.hall.proofs.waiting.without_seated.Given as goal

abbrev pub invariant-loop-booking : goal.invariant-loop-booking
invariant-loop-booking l = (l.m ≤ l.booking-index) × (length l.stay ≡ 64) × (take l.m l.stay ++ without_guests (take l.seats l.players) (drop l.booking-index l.booking-items) ≡ without_guests (take l.seats l.players) l.booking-items)
