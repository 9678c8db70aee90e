-- `matchmaker::add_player` meets its contract, by those of the two it calls.
use Rattle.matchmaker.proofs.add_player.Goals as goal

pub returns : goal.returns
returns c = rw (c.add_observed.ensures, c.observation.ensures)
