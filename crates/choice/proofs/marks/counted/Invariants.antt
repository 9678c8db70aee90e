-- The counts of the requirements from i on.
use mathlib.Core.Path.{◌≡◌}
use mathlib.Core.Bool.{not, cond, ◌&&◌}
use mathlib.Core.List.{map}
use Prim.Native.Nat.{ℕ}
use lib.Dec.{eqb}
use lib.ListN.{take, drop}
use Rattle.constraint.specs.declared.roles.RoleRequirement.{RoleRequirement}
use Rattle.choice.specs.Reading.{packed}
use Rattle.choice.proofs.marks.counted.Given as goal

-- 1 where the role counts for the requirement
abbrev ones : ℕ → RoleRequirement → ℕ
ones role q = cond (not (eqb q.role 0) && eqb role q.role) 1 0

abbrev pub invariant-loop-i : goal.invariant-loop-i
invariant-loop-i l = l.out ≡ packed (map (ones l.role) (drop l.i (take l.initial.i l.requirements)))
