-- One law for a match that is complete, and one for any other.
use Rattle.roster.specs.Roster.{of_ratings}
use Rattle.matchmaker.specs.Quality.{match_of}
use Rattle.seating.proofs.Laws.{lent}
use Rattle.greedy.specs.Steps.{paper_of}
use Rattle.greedy.proofs.Papers.{form_none, form_one}
use Rattle.greedy.proofs.form.Goals as goal

pub returns-then-not-is_complete : goal.returns-then-not-is_complete
returns-then-not-is_complete c =
    let s = c.args in
    form_none s.sizes (of_ratings s.ids.now s.ratings.now) (match_of s.teams) c.is_complete.ensures (paper_of s.written s.seats.now s.qualities.now) c.if-not-is_complete.true

pub returns : goal.returns
returns c =
    let s = c.args in
    let row = lent s.seats.now s.written.seats _ c.write_match.ensures in
    form_one s.sizes (of_ratings s.ids.now s.ratings.now) (match_of s.teams) c.is_complete.ensures s.written.seats s.written.count s.seats.now s.qualities.now c.if-not-is_complete.false c.requires.seats_in_bounds row c.rated_quality.ensures c.seats.ensures c.behind.ensures
