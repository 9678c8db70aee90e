-- `latency::holds` meets its contract: team A decides where it fails, and else team B.
use mathlib.Core.Path.{sym, ◌∙◌}
use Rattle.roster.specs.Roster.{of_ratings, rating_of}
use Rattle.matchmaker.specs.Quality.{match_of}
use Rattle.constraint.specs.Constraints.{above_zero}
use Rattle.base.proofs.Loops.{every_append}
use Rattle.constraint.proofs.latency.holds.Goals as goal

pub returns-then-is_team_above_zero : goal.returns-then-is_team_above_zero
returns-then-is_team_above_zero c =
    let a = c.args in
    let m = match_of a.proposed in
    let r = of_ratings a.ids.now a.ratings.now in
    rw (every_append (λ player. above_zero (rating_of r player)) m.a.players m.b.players, sym c.is_team_above_zero.ensures ∙ c.if-is_team_above_zero.true)
    c.is_team_above_zero-then-is_team_above_zero.ensures

pub returns-else-is_team_above_zero : goal.returns-else-is_team_above_zero
returns-else-is_team_above_zero c =
    let a = c.args in
    let m = match_of a.proposed in
    let r = of_ratings a.ids.now a.ratings.now in
    rw (every_append (λ player. above_zero (rating_of r player)) m.a.players m.b.players, sym c.is_team_above_zero.ensures ∙ c.if-is_team_above_zero.false)
    c.if-is_team_above_zero.false
