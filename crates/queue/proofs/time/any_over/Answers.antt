-- A search that runs to the end: what was found, or the rest gives it.
use Rattle.std.proofs.Common.{arith}
use Rattle.base.proofs.Loops.{found_on, found_end}
use Rattle.queue.specs.Time.{time_over}
use Rattle.queue.proofs.time.any_over.Goals as goal

pub loop-t-preserved : goal.loop-t-preserved
loop-t-preserved c =
    let l = c.loop-t in
    found_on time_over l.found c.args.times.now l.t-index l.invariant 0 (omega arith) c.is_over-found.ensures

pub returns : goal.returns
returns c =
    let l = c.loop-t in
    found_end time_over l.found c.args.times.now l.t-index l.invariant (omega arith)
