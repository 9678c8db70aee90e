-- What the exported queue and time functions answer.
use Rattle.std.specs.Prelude.{ℕ, ◌≡◌, Float}
use Rattle.std.specs.Prelude.{Option}
use Rattle.base.specs.Floats.{zero}
use Rattle.base.specs.Refusals.{Outcome}
use Rattle.queue.specs.Queue.{queue_of, Enqueuing, Removing, Parting}
use Rattle.queue.specs.declared.QueueEntry.{QueueEntry}
use Rattle.base.specs.Numbers.{refusal_of, value_or}
use Rattle.capi.specs.Numbers.{found_in, found_or}
use Rattle.capi.specs.declared.queues.Enqueued.{Enqueued}
use Rattle.capi.specs.declared.queues.Removed.{Removed}
use Rattle.capi.specs.declared.queues.Batch.{Batch}
use Rattle.capi.specs.declared.queues.Wait.{Wait}
use Rattle.capi.specs.declared.queues.Duration.{Duration}
use Rattle.capi.specs.declared.queues.Seconds.{Seconds}

-- the entry that stands where there is none
abbrev pub blank_entry : QueueEntry
blank_entry = record { player = 0; joined = 0; rating = zero; party = 0; role = 0 }

pub record EnqueueNumbers (rule : Enqueuing) (r : Enqueued) : Type 0 where
  pub queue : queue_of r.queue ≡ rule.queue
  pub refusal : r.refusal ≡ refusal_of rule.answer

pub record RemoveNumbers (rule : Removing) (r : Removed) : Type 0 where
  pub queue : queue_of r.queue ≡ rule.queue
  pub entry : r.entry ≡ found_or blank_entry rule.taken
  pub found : r.found ≡ found_in rule.taken
  pub refusal : r.refusal ≡ refusal_of rule.taken

pub record BatchNumbers (rule : Parting) (r : Batch) : Type 0 where
  pub kept : queue_of r.kept ≡ rule.kept
  pub removed : queue_of r.removed ≡ rule.removed
  pub refusal : r.refusal ≡ refusal_of rule.answer

abbrev pub wait_numbers : Outcome (Option ℕ) → Wait
wait_numbers o = record { nanos = found_or 0 o; found = found_in o; refusal = refusal_of o }

abbrev pub duration_numbers : Outcome ℕ → Duration
duration_numbers o = record { nanos = value_or 0 o; refusal = refusal_of o }

abbrev pub seconds_numbers : Outcome Float → Seconds
seconds_numbers o = record { seconds = value_or zero o; refusal = refusal_of o }
