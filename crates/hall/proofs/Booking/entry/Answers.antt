-- The rating is the float of the booking's bits.
use lib.Ieee.{Float}
use mathlib.Core.Path.{ap}
use Rattle.hall.proofs.Booking.entry.Goals as goal

pub returns : goal.returns
returns c =
    let b = c.args.self in
    ap (λ (x : Float). record { player = b.player; joined = b.joined; rating = x; party = b.party; role = b.role }) c.from_bits.ensures
