-- The last row that has the id is the last up to where the walk is.
use Prim.Native.Nat.{◌≤◌}
use mathlib.Core.Path.{◌≡◌}
use Rattle.roster.specs.Steps.{bucket_of, last_of, last_in}
use Rattle.roster.proofs.table.last_of.Given as goal

abbrev pub invariant-loop-k : goal.invariant-loop-k
invariant-loop-k l = (l.k ≤ l.from) × (last_of l.id l.ids l.from ≡ last_of l.id l.ids l.k) × (l.k ≡ last_in (bucket_of l.id) l.ids l.k)

abbrev pub decreases-loop-k : goal.decreases-loop-k
decreases-loop-k l = l.k
