-- What is kept so far, narrowed by the rest of the objectives, is what all of them leave.
use Prim.Native.Nat.{◌≤◌}
use mathlib.Core.Path.{◌≡◌}
use lib.ListN.{take, drop}
use Rattle.roster.specs.Roster.{of_ratings}
use Rattle.selection.specs.Selection.{narrowed}
use Rattle.selection.specs.Steps.{shortlist_of}
use Rattle.selection.proofs.lexicographic.narrow.Given as goal

abbrev pub invariant-loop-i : goal.invariant-loop-i
invariant-loop-i l = (l.kept.len ≤ 64) × (narrowed (of_ratings l.ids l.ratings) (drop l.i (take l.count l.objectives)) (shortlist_of l.kept) ≡ narrowed (of_ratings l.ids l.ratings) (take l.count l.objectives) (shortlist_of l.initial.kept))
