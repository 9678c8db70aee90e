-- What is read so far and what is left to read come to the rule's answer.
use Rattle.std.proofs.Common.{◌≡◌, drop}
use mathlib.Core.List.{foldl}
use Rattle.base.specs.Refusals.{outcome_of}
use Rattle.queue.specs.Queue.{wait_rule, holding}
use Rattle.lent.specs.Reading.{read}
use Rattle.lent.proofs.waiting_time.Given as goal

abbrev pub invariant-loop-entry : goal.invariant-loop-entry
invariant-loop-entry l = foldl (read l.player l.clock) (outcome_of l.wait) (drop l.entry-index l.entry-items) ≡ wait_rule (holding l.queue) l.player l.clock
