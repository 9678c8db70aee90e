-- A copy from the front: what is found of so many players, and the sheet beyond.
use Prim.Native.Nat.{ℕ}
use mathlib.Core.Path.{◌≡◌}
use mathlib.Core.List.{◌++◌, map}
use Rattle.std.specs.Prelude.{unwrap_or}
use lib.ListN.{take, drop}
use Rattle.base.specs.Floats as Floats
use Rattle.roster.specs.Roster.{observe}
use Rattle.roster.proofs.places.write_values.Given as goal

abbrev pub invariant-loop-i : goal.invariant-loop-i
invariant-loop-i l = l.values ≡ take l.i (map (λ (p : ℕ). unwrap_or (observe l.ids l.column p) Floats.zero) l.players) ++ drop l.i l.initial.values
