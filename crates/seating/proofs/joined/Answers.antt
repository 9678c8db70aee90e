-- `seating::joined` meets its contract: the player stands behind those whom the team holds, where a place is free.
use mathlib.Core.Path.{◌≡◌}
use lib.ListN.{length}
use Rattle.base.proofs.Arrays.{unmapped}
use Rattle.seating.proofs.Laws.{joined_short, joined_full}
use borrow.Author.Rules.{rules}
use Rattle.seating.proofs.joined.Goals as goal

pub returns-then-n-ge8 : goal.returns-then-n-ge8
returns-then-n-ge8 c =
    let s = c.args in
    joined_full s.side.len s.side.players c.held-n.result s.player c.held-n.ensures c.if-n-ge8.true

pub returns : goal.returns
returns c =
    let s = c.args in
    let l : length s.side.players ≡ 8 = search (unmapped, rules) in
    joined_short s.side.len s.side.players c.held-n.result s.player c.held-n.ensures l c.if-n-ge8.false
