-- The place is found, and the wait read there.
use Rattle.std.proofs.Common.{rules}
use Rattle.base.proofs.Arrays.{unmapped}
use Rattle.queue.proofs.Laws.{waited_nobody, waited}
use Rattle.queue.proofs.Queue.first_wait.Goals as goal

pub returns-then-n-at : goal.returns-then-n-at
returns-then-n-at c =
    let q = c.args.self in
    waited_nobody q.entries q.len _ _ _ (search (unmapped, rules)) c.at_most-n.ensures c.place_of-at.ensures _ c.if-n-at.true

pub returns : goal.returns
returns c =
    let q = c.args.self in
    waited q.entries q.len _ _ _ (search (unmapped, rules)) c.at_most-n.ensures c.place_of-at.ensures _ _ c.if-n-at.false c.elapsed.ensures
