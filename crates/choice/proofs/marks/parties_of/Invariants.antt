-- The party of each place so far.
use mathlib.Core.Path.{◌≡◌}
use mathlib.Core.List.{map}
use lib.ListN.{length, take}
use mathlib.Core.Bool.{cond}
use Rattle.roster.specs.Roster.{of_parties, party_of}
use Rattle.choice.proofs.marks.parties_of.Given as goal

abbrev pub invariant-loop-i : goal.invariant-loop-i
invariant-loop-i l = (length l.out ≡ 64) × (take l.i l.out ≡ map (λ p. cond l.brought (party_of (of_parties l.ids l.parties) p) 0) (take l.i l.queued))
