-- The marks and the team are what the calls say.
use Rattle.greedy.specs.Steps.{columns}
use Rattle.greedy.proofs.Laws.{opens}
use Rattle.greedy.proofs.open.Goals as goal

pub returns-clause-result_after : goal.returns-clause-result_after
returns-clause-result_after c =
    let s = c.args in
    opens (columns s.players.now s.ratings.now s.rostered.now) s.used.now s.at c.mark.ensures.used_after c.opened.ensures
