-- The place is found, and the row is closed up over it.
use Rattle.std.proofs.Common.{rules}
use Rattle.base.proofs.Arrays.{unmapped}
use Rattle.queue.proofs.Laws.{took_nobody, took_entry}
use Rattle.queue.proofs.Queue.take_first.Goals as goal

pub returns-then-n-at : goal.returns-then-n-at
returns-then-n-at c =
    let q = c.args.self in
    took_nobody q.entries q.len _ _ _ (search (unmapped, rules)) c.at_most-n.ensures c.place_of-at.ensures c.if-n-at.true

pub returns : goal.returns
returns c =
    let q = c.args.self in
    took_entry q.entries q.len _ _ _ (search (unmapped, rules)) c.at_most-n.ensures c.place_of-at.ensures _ c.if-n-at.false c.closed_up.ensures
