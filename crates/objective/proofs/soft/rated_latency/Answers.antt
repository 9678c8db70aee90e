-- `soft::rated_latency` meets its contract: the sum over team A, then on over team B, and its average.
use mathlib.Core.Path.{ap, ◌∙◌}
use Rattle.roster.specs.Roster.{of_ratings}
use Rattle.matchmaker.specs.Quality.{match_of}
use Rattle.objective.proofs.Laws.{latency_known}
use Rattle.objective.specs.Soft.{latency_at}
use Rattle.objective.proofs.soft.rated_latency.Goals as goal

pub returns : goal.returns
returns c =
    let a = c.args in
    c.latency_at.ensures
    ∙ ap latency_at c.average.ensures
    ∙ latency_known (of_ratings a.ids.now a.ratings.now) (match_of a.proposed) c.add_to-of_a.ensures c.add_to-sum.ensures c.seats.ensures
