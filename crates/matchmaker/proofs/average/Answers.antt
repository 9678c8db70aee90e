-- `matchmaker::average` meets its contract: the divisor is the length, or 1 where that is 0.
use Rattle.std.proofs.Common.{arith}
use Rattle.matchmaker.proofs.Laws.{averaged}
use Rattle.matchmaker.proofs.average.Goals as goal

pub returns : goal.returns
returns c = rw c.nearest_u64_to_f64.ensures (averaged c.args.sum c.args.len _ (omega arith))
