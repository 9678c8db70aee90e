-- `matchmaker::quality_between` meets its contract: its tests tell how far apart the averages are, and the laws what quality is there.
use Rattle.std.proofs.Common.{sym}
use Rattle.matchmaker.proofs.FarApart.{near, far, tested_near, tested_above, tested_below}
use Rattle.matchmaker.proofs.quality_between.Goals as goal
use Rattle.matchmaker.proofs.quality_between.Goals.{else-difference-via-then-difference+else-difference-2, else-difference-via-else-difference}

pub returns-then-difference-2 : goal.returns-then-difference-2
returns-then-difference-2 c = simp c.abs.ensures (sym (near _ (tested_near _ c.if-difference.true c.if-difference-2.true)))

pub returns : goal.returns
returns c = elim c.else-difference.branch [
  | else-difference-via-then-difference+else-difference-2 w ↦ sym (far _ (tested_below _ w.if-difference-2.false))
  | else-difference-via-else-difference w ↦ sym (far _ (tested_above _ w.if-difference.false))
]
