-- What stands on the sheet is the row of the matches so far; each turn lends the rest of the sheet for one match more.
use Prim.Native.Nat.{◌*◌}
use mathlib.Core.Path.{◌≡◌}
use lib.ListN.{length}
use Rattle.seating.specs.Steps.{overlaid}
use Rattle.candidate.proofs.Laws.{at_places}
use Rattle.candidate.proofs.nearest.write_matches.Given as goal

abbrev pub invariant-loop : goal.invariant-loop
invariant-loop l = (l.at ≡ l.counter * l.seats) × (length l.sheet ≡ length l.initial.sheet) × (l.sheet ≡ overlaid (at_places l.waiting l.places l.at) l.initial.sheet)
