-- As many matches are cut as a division counts.
use mathlib.Core.Path.{◌∙◌}
use Rattle.candidate.proofs.Laws.{many_divided}
use Rattle.candidate.proofs.nearest.matches_of.Goals as goal

pub returns : goal.returns
returns c = c.at_most.ensures ∙ many_divided c.args.seats c.args.limit c.args.n c.requires
