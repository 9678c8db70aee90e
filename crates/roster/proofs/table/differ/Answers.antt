-- The table begins with no rows.
use native.Mathlib.Omega.{arith}
use Rattle.roster.proofs.Buckets.{none_noted}
use Rattle.roster.proofs.table.differ.Goals as goal

pub note_all-requires : goal.note_all-requires
note_all-requires c = record { ids_len_bound = omega arith; noted = none_noted c.args.ids.now }

pub returns : goal.returns
returns c = c.note_all.ensures.value
