-- One law for each test.
use mathlib.Core.Path.{◌∙◌}
use borrow.Author.Tests.{ne_eqb}
use Rattle.matchmaker.specs.Quality.{match_of}
use Rattle.seating.proofs.TurnLaws.{full_a, not_full_a}
use Rattle.seating.proofs.turns.is_complete.Goals as goal

pub returns-then-held-sizes : goal.returns-then-held-sizes
returns-then-held-sizes c = full_a c.args.sizes (match_of c.args.proposed) c.held.ensures c.if-held-sizes.true c.held-then-held-sizes.ensures

pub returns-else-held-sizes : goal.returns-else-held-sizes
returns-else-held-sizes c =
    ne_eqb c.held.result c.args.sizes.a c.if-held-sizes.false
    ∙ not_full_a c.args.sizes (match_of c.args.proposed) c.held.ensures c.if-held-sizes.false
