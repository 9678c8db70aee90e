-- The last seat: a choice that is idle is only counted, each other one is weighed.
use Prim.Native.Nat.{◌+◌, ◌-◌}
use mathlib.Core.Path.{◌≡◌}
use Rattle.matchmaker.specs.Quality.{match_of}
use Rattle.choice.specs.Reading.{columns}
use Rattle.choice.specs.Steps.{so_far_of}
use Rattle.choice.proofs.Onward.{Onward}
use Rattle.choice.proofs.seat_last.Given as goal

abbrev pub invariant-loop-at : goal.invariant-loop-at
invariant-loop-at l = (l.out.tried + (l.from + l.rest - l.at) ≡ l.initial.out.tried + l.rest) × Onward l.sizes (columns l.queued l.rows l.rated l.admits l.counts l.same l.expected l.foes) l.bounds l.from l.rest 1 (match_of l.teams) l.sums l.tally l.objectives l.count (so_far_of l.initial.out) l.at (l.from + l.rest - l.at) (so_far_of l.out)
