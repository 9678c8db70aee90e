-- A search that runs to the end: what was found, or the rest gives it.
use Rattle.std.proofs.Common.{◌≡◌, ◌||◌, drop}
use Rattle.base.specs.Lists.{any}
use Rattle.queue.specs.Time.{time_over}
use Rattle.queue.proofs.time.any_over.Given as goal

abbrev pub invariant-loop-t : goal.invariant-loop-t
invariant-loop-t l = any time_over l.times ≡ (l.found || any time_over (drop l.t-index l.times))
