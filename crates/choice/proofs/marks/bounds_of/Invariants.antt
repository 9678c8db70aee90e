-- The limits of the requirements from i on.
use Prim.Native.Nat.{ℕ}
use mathlib.Core.Path.{◌≡◌}
use mathlib.Core.List.{map}
use lib.ListN.{take, drop}
use Rattle.constraint.specs.declared.roles.RoleRequirement.{RoleRequirement}
use Rattle.choice.specs.Reading.{packed, capped, most_of}
use Rattle.choice.proofs.marks.bounds_of.Given as goal

-- the least of a requirement, as a digit
abbrev least_of : RoleRequirement → ℕ
least_of q = capped q.least

-- the most of a requirement, as a digit
abbrev at_most : RoleRequirement → ℕ
at_most q = most_of q.most

abbrev pub invariant-loop-i : goal.invariant-loop-i
invariant-loop-i l = (l.least ≡ packed (map least_of (drop l.i (take l.asked l.requirements)))) × (l.most ≡ packed (map at_most (drop l.i (take l.asked l.requirements))))
