-- Demand 3 covers lists of calls in which some are bookings over a lent hall.
use Prim.Native.Nat.{ℕ}
use mathlib.Core.Path.{◌≡◌}
use mathlib.Core.List.{List, ◌∷◌}
use Rattle.hall.specs.Hall.{HallState, keyed_rule, hall_of, Deed, book}
use Rattle.hall.specs.declared.Hall.{Hall}
use Rattle.hall.specs.declared.Booking.{Booking}
use Rattle.demand.specs.Calls.{Call, keyed, Answer, answered}
use Rattle.demand.specs.Runs.{Met, keyed_met, Run, called}
use Rattle.capi.specs.Halls.{turn_in}
use Rattle.capi.specs.declared.halls.Keyed.{Keyed}
use Rattle.lent.specs.Lent.{lent_turn}

-- what `book` promises of a lent hall is a call that met its promise: on the hall as it was lent, with the hall as it was left
pub lent_met : (h left : Hall) (k : ℕ) (b : Booking) (n : ℕ) → lent_turn left n ≡ keyed_rule (hall_of h) k (book b) → Met (hall_of h) (keyed k (book b)) (answered (lent_turn left n).answer) (hall_of left)
lent_met h left k b n e = keyed_met (lent_turn left n) e

-- a keyed call by value, a booking over the hall that it returned, and any run from the hall as that left it, are one run
pub mixed_run : (h left : Hall) (j k : ℕ) (d : Deed) (b : Booking) (r : Keyed) (n : ℕ) {cs : List Call} {rs : List Answer} {l : HallState}
    → turn_in r ≡ keyed_rule (hall_of h) j d → lent_turn left n ≡ keyed_rule (hall_of r.hall) k (book b) → Run (hall_of left) cs rs l
    → Run (hall_of h) (keyed j d ∷ keyed k (book b) ∷ cs) (answered (turn_in r).answer ∷ answered (lent_turn left n).answer ∷ rs) l
mixed_run h left j k d b r n p e rest = called (keyed_met (turn_in r) p) (called (lent_met r.hall left k b n e) rest)
