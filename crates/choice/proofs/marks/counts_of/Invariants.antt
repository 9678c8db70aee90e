-- The counts of each place so far, all small.
use mathlib.Core.Path.{◌≡◌}
use mathlib.Core.List.{map}
use lib.ListN.{length, take}
use Prim.Native.Nat.{ℕ, ◌≤◌}
use lib.ListN.{get_or}
use Rattle.roster.specs.Roster.{of_roles}
use Rattle.constraint.specs.Constraints.{requirements_of}
use Rattle.choice.specs.Reading.{packed, one_each, counts_for}
use Rattle.choice.proofs.marks.counts_of.Given as goal

abbrev pub invariant-loop-i : goal.invariant-loop-i
invariant-loop-i l = (length l.out ≡ 64) × (take l.i l.out ≡ map (λ p. packed (map (counts_for (of_roles l.ids l.roles) p) (requirements_of l.required))) (take l.i l.queued)) × ((j : ℕ) → get_or l.out j 0 ≤ one_each)
