-- `Team::average_rating` meets its contract, by those of the three it calls.
use Rattle.matchmaker.proofs.Team.average_rating.Goals as goal

pub returns : goal.returns
returns c = rw (c.average.ensures, c.add_to.ensures, c.held.ensures)
