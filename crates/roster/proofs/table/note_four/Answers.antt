-- Four rows into empty buckets differ from all above, and others are looked at.
use Prim.Native.Nat.{◌+◌}
use mathlib.Core.Path.{◌≡◌, sym}
use native.Mathlib.Omega.{arith}
use Rattle.roster.proofs.Buckets.{differ_four}
use Rattle.roster.proofs.table.note_four.Goals as goal

pub note-of_third-requires : goal.note-of_third-requires
note-of_third-requires c = record { row_in_bounds = (omega arith, omega arith); noted = c.note-of_second.ensures.noted_2 }

pub note-of_fourth-requires : goal.note-of_fourth-requires
note-of_fourth-requires c = record { row_in_bounds = (omega arith, omega arith); noted = c.note-of_third.ensures.noted_2 }

pub returns-then-of_first-of_second-eq0 : goal.returns-then-of_first-of_second-eq0
returns-then-of_first-of_second-eq0 c =
    let a = c.args in
    let e : a.row + 1 + 1 + 1 + 1 ≡ a.row + 4 = omega arith in
    let first = c.note-of_first.ensures.value.0 in
    let second = c.note-of_second.ensures.value.0 in
    let third = c.note-of_third.ensures.value.0 in
    let fourth = c.note-of_fourth.ensures.value.0 in
    record { value = sym (rw e at (differ_four a.ids.now a.row (omega arith) c.requires.ids_value (omega arith) (omega arith) (omega arith) (omega arith))); noted_2 = rw e at c.note-of_fourth.ensures.noted_2 }

pub still_differ-requires : goal.still_differ-requires
still_differ-requires c =
    let a = c.args in
    let e : a.row + 1 + 1 + 1 + 1 ≡ a.row + 4 = omega arith in
    let t = c.note-of_fourth.ensures.noted_2 in
    record { from_le_to = (omega arith, (omega arith, omega arith)); before_len = (t.rows, λ row h. t.chained row (omega arith)); ids_value = c.requires.ids_value }

pub returns : goal.returns
returns c =
    let a = c.args in
    let e : a.row + 1 + 1 + 1 + 1 ≡ a.row + 4 = omega arith in
    record { value = c.still_differ.ensures; noted_2 = rw e at c.note-of_fourth.ensures.noted_2 }
