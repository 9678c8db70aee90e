-- Each player in turn takes the first of the last two seats; where all choices with that player are idle they are only counted.
use Prim.Native.Nat.{◌+◌, ◌-◌}
use mathlib.Core.Path.{◌≡◌}
use Rattle.matchmaker.specs.Quality.{match_of}
use Rattle.candidate.specs.Choices.{ways}
use Rattle.choice.specs.Reading.{columns}
use Rattle.choice.specs.Steps.{so_far_of}
use Rattle.choice.proofs.Onward.{Onward}
use Rattle.choice.proofs.seat_two.Given as goal

abbrev pub invariant-loop-behind : goal.invariant-loop-behind
invariant-loop-behind l = (l.out.tried + ways l.behind 2 ≡ l.initial.out.tried + ways l.rest 2) × Onward l.sizes (columns l.queued l.rows l.rated l.admits l.counts l.same l.expected l.foes) l.bounds l.from l.rest 2 (match_of l.teams) l.sums l.tally l.objectives l.count (so_far_of l.initial.out) (l.from + l.rest - l.behind) l.behind (so_far_of l.out)
