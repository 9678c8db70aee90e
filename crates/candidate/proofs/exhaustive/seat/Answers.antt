-- Team A has fewer than its size, and the player joins it; or joins team B.
use Rattle.matchmaker.specs.Quality.{match_of}
use Rattle.candidate.proofs.Walking.{seat_in_a, seat_in_b}
use Rattle.candidate.proofs.exhaustive.seat.Goals as goal

pub returns-then-held-sizes : goal.returns-then-held-sizes
returns-then-held-sizes c =
    let s = c.args in
    seat_in_a s.sizes (match_of s.teams) s.player c.held.ensures c.if-held-sizes.true c.joined.ensures

pub returns : goal.returns
returns c =
    let s = c.args in
    seat_in_b s.sizes (match_of s.teams) s.player c.held.ensures c.if-held-sizes.false c.joined-2.ensures
