-- `matchmaker::average_of_rows` meets its contract, by those of the two it calls.
use Rattle.matchmaker.proofs.average_of_rows.Goals as goal

pub returns : goal.returns
returns c = rw (c.average.ensures, c.add_rows.ensures)
