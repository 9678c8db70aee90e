-- Too few for A, too few for B, or that many, if they are any.
use native.Mathlib.Omega.{arith}
use Rattle.hall.proofs.GameLaws.{few_for_a, few_for_b, enough_by_a, enough_by_b}
use Rattle.hall.proofs.games.is_enough.Goals as goal

pub returns-then-waiting-sizes : goal.returns-then-waiting-sizes
returns-then-waiting-sizes c = few_for_a c.args.sizes c.args.waiting (omega arith)

pub returns-then-waiting-sizes-2 : goal.returns-then-waiting-sizes-2
returns-then-waiting-sizes-2 c = few_for_b c.args.sizes c.args.waiting (omega arith) (omega arith)

pub returns-then-sizes-gt0 : goal.returns-then-sizes-gt0
returns-then-sizes-gt0 c = enough_by_a c.args.sizes c.args.waiting (omega arith) (omega arith) (omega arith)

pub returns : goal.returns
returns c = enough_by_b c.args.sizes c.args.waiting (omega arith) (omega arith) (omega arith)
