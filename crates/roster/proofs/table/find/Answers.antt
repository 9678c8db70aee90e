-- The rows are written where all ids differ.
use mathlib.Core.Path.{refl, sym, ◌∙◌}
use native.Mathlib.Omega.{arith}
use Rattle.roster.proofs.Buckets.{none_noted}
use Rattle.roster.proofs.table.find.Goals as goal

pub note_all-requires : goal.note_all-requires
note_all-requires c = record { ids_len_bound = omega arith; noted = none_noted c.args.ids.now }

pub returns-then-not-note_all : goal.returns-then-not-note_all
returns-then-not-note_all c = record { value = sym c.if-not-note_all.true ∙ c.note_all.ensures.value; rows_after = refl }

pub write_rows-requires : goal.write_rows-requires
write_rows-requires c =
    let n = c.note_all.ensures in
    let t = c.if-not-note_all.false in
    record { ids_len_bound = omega arith; ids_value = sym n.value ∙ t; noted = n.noted_2 t }

pub returns : goal.returns
returns c =
    let t = c.if-not-note_all.false in
    record { value = sym t ∙ c.note_all.ensures.value; rows_after = c.write_rows.ensures }
