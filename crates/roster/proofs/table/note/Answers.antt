-- The table has a row more.
use mathlib.Core.Path.{refl}
use native.Mathlib.Omega.{arith}
use Rattle.roster.proofs.Buckets.{row_noted, earlier_last}
use Rattle.roster.proofs.table.note.Goals as goal

pub returns : goal.returns
returns c =
    let a = c.args in
    let b = c.bucket-at.ensures in record { value = rw c.wide.ensures (earlier_last a.ids.now a.last.now a.before.now a.row c.requires.noted b.0 b.1 refl); noted_2 = row_noted a.ids.now a.last.now a.before.now a.row c.requires.noted (omega arith) b.0 b.1 refl }
