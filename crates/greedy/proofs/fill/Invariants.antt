-- What is left to fill still gives the whole, and the column of those who are free goes with the marks.
use Prim.Native.Nat.{◌-◌}
use mathlib.Core.Path.{◌≡◌}
use lib.ListN.{length}
use Rattle.greedy.specs.Steps.{columns, fill_of, free_of, filling}
use Rattle.greedy.proofs.fill.Given as goal

abbrev pub invariant-loop : goal.invariant-loop
invariant-loop l = (length l.used ≡ 64)
    × (l.free ≡ free_of l.ratings l.used)
    × (filling l.sizes (columns l.players l.ratings l.rostered) l.n (l.end - l.counter) (fill_of l.used l.out) ≡ filling l.sizes (columns l.players l.ratings l.rostered) l.n l.end (fill_of l.initial.used l.initial.out))
