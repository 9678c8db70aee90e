-- So many of the game, for its sizes.
use Rattle.hall.specs.Games.{enough}
use Rattle.hall.proofs.games.has_enough.Goals as goal

pub returns : goal.returns
unfolding enough
returns c = rw (← c.sizes_of.ensures, ← c.count.ensures) c.is_enough.ensures
