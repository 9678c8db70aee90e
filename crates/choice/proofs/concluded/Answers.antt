-- Refusal 5, or the best where one was found.
use native.Mathlib.Omega.{arith}
use mathlib.Core.Path.{refl, ◌∙◌}
use Rattle.matchmaker.specs.Quality.{match_of}
use Rattle.choice.proofs.Stepping.{concludes_refused, concludes_given, found_teams}
use Rattle.choice.proofs.concluded.Goals as goal

pub returns-then-best : goal.returns-then-best
returns-then-best c =
    let s = c.args.best in
    concludes_refused s.tried s.found s.many s.nan (record { teams = match_of s.teams; score = s.score }) refl c.if-best.true

pub returns : goal.returns
returns c =
    let s = c.args.best in
    (grind (arith, found_teams)) ∙ concludes_given s.tried s.found s.many s.nan (record { teams = match_of s.teams; score = s.score }) refl c.if-best.false
