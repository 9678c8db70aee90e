-- A row is written from another: it holds the game's bookings so far, and the rest gives what is missing.
use mathlib.Core.Path.{◌≡◌}
use mathlib.Core.List.{◌++◌}
use Prim.Native.Nat.{◌≤◌}
use lib.ListN.{length, take, drop}
use Rattle.hall.specs.Games.{eligible}
use Rattle.hall.proofs.waiting.of_game.Given as goal

abbrev pub invariant-loop-booking : goal.invariant-loop-booking
invariant-loop-booking l = (l.found ≤ l.booking-index) × (length l.own ≡ 64) × (take l.found l.own ++ eligible l.game (drop l.booking-index l.booking-items) ≡ eligible l.game l.booking-items)
