-- `turns::seats_left` meets its contract: the anchor's seat counts where A has one.
use native.Mathlib.Nat.{min-le_right}
use native.Mathlib.Omega.{arith}
use borrow.Author.Rules.{rules}
use Rattle.seating.proofs.turns.seats_left.Goals as goal

pub overflow_add-result : goal.overflow_add-result
overflow_add-result c =
    let s = c.args.sizes in
    search (min-le_right s.a 8, min-le_right s.b 8, rules)

pub returns : goal.returns
returns c = rw (← c.at_most-a.ensures, ← c.at_most-b.ensures) (omega (arith, c.saturating_sub.ensures))
