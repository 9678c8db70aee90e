-- A search along the circle: the rest gives what the whole gives.
use lib.ListN.{take}
use Rattle.hall.specs.Games.{enough}
use Rattle.hall.proofs.GameLaws.{Rest}
use Rattle.hall.proofs.games.next.Given as goal

abbrev pub invariant-loop-i : goal.invariant-loop-i
invariant-loop-i l = Rest (enough l.sizes (take l.n l.bookings)) l.last l.i
