-- A copy from the front: so many players' rows, and the sheet beyond.
use Prim.Native.Nat.{ℕ}
use mathlib.Core.Path.{◌≡◌}
use mathlib.Core.List.{◌++◌, map}
use lib.ListN.{take, drop}
use Rattle.roster.specs.Roster.{row_of}
use Rattle.roster.proofs.table.write_rows.Given as goal

abbrev pub invariant-loop-i : goal.invariant-loop-i
invariant-loop-i l = l.rows ≡ take l.i (map (λ (p : ℕ). row_of p l.ids) l.players) ++ drop l.i l.initial.rows
