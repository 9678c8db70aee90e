-- `soft::latency_at` meets its contract, by that of `min`.
use Rattle.objective.specs.Soft.{latency_at}
use Rattle.objective.proofs.soft.latency_at.Goals as goal

pub returns : goal.returns
unfolding latency_at
returns c = rw c.min.ensures
