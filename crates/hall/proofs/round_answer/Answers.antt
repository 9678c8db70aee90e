-- By the tests, in their order.
use native.Mathlib.Omega.{arith}
use borrow.Author.Tests.{lt-ltb, le-ltb}
use Rattle.hall.proofs.round_answer.Goals as goal

pub returns-then-game-gt7 : goal.returns-then-game-gt7
returns-then-game-gt7 c = rw (lt-ltb 7 c.args.game (omega arith))

pub returns-then-over : goal.returns-then-over
returns-then-over c = rw (le-ltb 7 c.args.game (omega arith), c.if-over.true)

pub returns : goal.returns
returns c = rw (le-ltb 7 c.args.game (omega arith), c.if-over.false)
