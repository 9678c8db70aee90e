-- The first limit, the second, or else those of the games.
use native.Mathlib.Omega.{arith}
use borrow.Author.Tests.{lt-ltb, le-ltb}
use Rattle.hall.proofs.is_over.Goals as goal

pub returns-then-waiting-gt64 : goal.returns-then-waiting-gt64
returns-then-waiting-gt64 c = rw (lt-ltb 64 c.args.waiting (omega arith))

pub returns-then-noted-gt1024 : goal.returns-then-noted-gt1024
returns-then-noted-gt1024 c = rw (le-ltb 64 c.args.waiting (omega arith), lt-ltb 1024 c.args.noted (omega arith))

pub returns : goal.returns
returns c = rw (le-ltb 64 c.args.waiting (omega arith), le-ltb 1024 c.args.noted (omega arith)) c.are_over.ensures
