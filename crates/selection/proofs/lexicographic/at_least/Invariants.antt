-- A sieve: what is kept and what the rest keeps make all that is kept.
use Rattle.selection.specs.declared.lexicographic.Candidate.{Candidate}
use Rattle.objective.specs.declared.soft.SoftObjective.{SoftObjective}
use mathlib.Core.Bool.{Bool}
use Prim.Native.Nat.{◌≤◌, ℕ}
use mathlib.Core.Path.{◌≡◌}
use mathlib.Core.List.{◌++◌, List}
use lib.Ieee.{le, Float}
use lib.ListN.{length, take, drop}
use Rattle.base.specs.Lists.{keep}
use Rattle.roster.specs.Roster.{of_ratings}
use Rattle.selection.specs.Selection.{value_of}
use Rattle.selection.specs.Steps.{still_in_of}
use Rattle.selection.proofs.lexicographic.at_least.Given as goal

-- is the candidate's value at least the bound?
abbrev reaches : Float → SoftObjective → List ℕ → List Float → Candidate → Bool
reaches bound objective ids ratings candidate = le bound (value_of (of_ratings ids ratings) objective (still_in_of candidate))

abbrev pub invariant-loop-i : goal.invariant-loop-i
invariant-loop-i l = (l.k ≤ l.i) × (length l.out ≡ 64) × (take l.k l.out ++ keep (reaches l.bound l.objective l.ids l.ratings) (drop l.i (take l.fn.shortlist.len l.kept)) ≡ keep (reaches l.bound l.objective l.ids l.ratings) (take l.fn.shortlist.len l.kept))
