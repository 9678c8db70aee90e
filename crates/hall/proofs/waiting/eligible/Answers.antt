-- The queue of the game's own row.
use Rattle.hall.proofs.WaitLaws.{queue_of_row}
use Rattle.hall.proofs.waiting.eligible.Goals as goal

pub returns : goal.returns
returns c = queue_of_row _ _ c.queue_of.ensures c.of_game-own.ensures
