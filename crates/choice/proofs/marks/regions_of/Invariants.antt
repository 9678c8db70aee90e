-- The region of each place so far.
use mathlib.Core.Path.{◌≡◌}
use mathlib.Core.List.{map}
use lib.ListN.{length, take}
use mathlib.Core.Bool.{cond}
use Rattle.roster.specs.Roster.{of_regions, region_of}
use Rattle.choice.proofs.marks.regions_of.Given as goal

abbrev pub invariant-loop-i : goal.invariant-loop-i
invariant-loop-i l = (length l.out ≡ 64) × (take l.i l.out ≡ map (λ p. cond l.brought (region_of (of_regions l.ids l.regions) p) 4) (take l.i l.queued))
