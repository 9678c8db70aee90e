-- A search along the circle: the rest gives what the whole gives.
use native.Mathlib.Omega.{arith}
use mathlib.Core.Path.{sym, ◌∙◌}
use lib.ListN.{take}
use Rattle.hall.specs.Games.{enough}
use Rattle.hall.proofs.GameLaws.{next_hit, next_on, next_none}
use Rattle.hall.proofs.games.next.Goals as goal

pub returns-then-has_enough : goal.returns-then-has_enough
returns-then-has_enough c =
    let s = c.args in
    let l = c.loop-i in
    next_hit (enough s.sizes (take s.n s.bookings)) s.last l.i l.invariant _ (omega arith) (omega arith) (sym c.if-has_enough.true ∙ c.has_enough.ensures)

pub loop-i-preserved : goal.loop-i-preserved
loop-i-preserved c =
    let s = c.args in
    let l = c.loop-i in
    next_on (enough s.sizes (take s.n s.bookings)) s.last l.i l.invariant _ (omega arith) (omega arith) (sym c.if-has_enough.false ∙ c.has_enough.ensures)

pub returns : goal.returns
returns c =
    let s = c.args in
    let l = c.loop-i in
    next_none (enough s.sizes (take s.n s.bookings)) s.last l.i l.invariant (omega arith)
