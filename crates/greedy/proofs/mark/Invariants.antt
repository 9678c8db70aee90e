-- The marks so far, with what the rest still gives, and the same of who is free.
use mathlib.Core.Path.{◌≡◌}
use mathlib.Core.Bool.{true}
use mathlib.Core.List.{◌++◌}
use lib.ListN.{take, drop}
use Rattle.greedy.specs.Steps.{struck}
use Rattle.greedy.proofs.mark.Given as goal

abbrev pub invariant-loop-i : goal.invariant-loop-i
invariant-loop-i l = (take l.i l.used ++ struck true l.player (drop l.i l.players) (drop l.i l.used) ≡ struck true l.player l.players l.initial.used)
    × (take l.i l.free ++ struck l.nobody l.player (drop l.i l.players) (drop l.i l.free) ≡ struck l.nobody l.player l.players l.initial.free)
