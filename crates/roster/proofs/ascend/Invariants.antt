-- What went by ascends and the rest ascends from the last id exactly where all ids ascend.
use mathlib.Core.Path.{◌≡◌}
use mathlib.Core.Bool.{◌&&◌}
use lib.ListN.{drop}
use Rattle.roster.specs.Ascending.{ascends_from, ascends}
use Rattle.roster.proofs.ascend.Given as goal

abbrev pub invariant-loop-id : goal.invariant-loop-id
invariant-loop-id l = ascends l.ids ≡ (l.rising && ascends_from l.last (drop l.id-index l.id-items))
