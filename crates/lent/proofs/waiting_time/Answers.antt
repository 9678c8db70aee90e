-- The walk over the list that is lent gives what the rule of the waiting time says.
use Rattle.std.proofs.Common.{sym, ◌∙◌, take}
use lib.Seq.{length-take-le}
use Rattle.base.proofs.Loops.{fold_on, fold_end}
use Rattle.queue.specs.Columns.{no_entry}
use Rattle.base.specs.Refusals.{outcome_of}
use Rattle.lent.specs.Reading.{read}
use Rattle.lent.proofs.Laws.{readable_fits, read_whole}
use Rattle.lent.proofs.waiting_time.Goals as goal

pub slice_bounds-entry-items-end : goal.slice_bounds-entry-items-end
slice_bounds-entry-items-end c =
    sym (length-take-le c.readable-n.result c.args.queue.now (readable_fits _ _ c.readable-n.ensures))

pub loop-entry-init : goal.loop-entry-init
loop-entry-init c =
    read_whole c.args.player c.args.clock c.args.queue.now _ _ c.readable-n.ensures c.before_reading-wait.ensures

pub loop-entry-preserved : goal.loop-entry-preserved
loop-entry-preserved c =
    let l = c.loop-entry in
    fold_on (read c.args.player c.args.clock) _ (take c.readable-n.result c.args.queue.now) l.entry-index c.loop-entry-test.true c.read-wait.ensures ∙ l.invariant

pub returns : goal.returns
returns c =
    let l = c.loop-entry in
    sym (fold_end (read c.args.player c.args.clock) no_entry (take c.readable-n.result c.args.queue.now) l.entry-index (outcome_of l.wait) c.loop-entry-test.false) ∙ l.invariant
