-- `soft::add_weighted` meets its contract, by those of the two it calls.
use Rattle.objective.specs.Soft.{weighted}
use Rattle.objective.proofs.soft.add_weighted.Goals as goal

pub returns : goal.returns
unfolding weighted
returns c = rw (c.weight.ensures, c.value_from.ensures)
