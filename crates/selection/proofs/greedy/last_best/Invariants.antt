-- The best so far and the rest of the scores make the best of all.
use Prim.Native.Nat.{◌<◌}
use mathlib.Core.Path.{◌≡◌}
use lib.Ieee.{nan}
use lib.ListN.{take, drop, get_or}
use Rattle.base.specs.Ranking.{last_best}
use Rattle.ranking.specs.Order.{ranked, ranked_score, numbered}
use Rattle.selection.proofs.greedy.last_best.Given as goal

abbrev pub invariant-loop-i : goal.invariant-loop-i
invariant-loop-i l = (l.best < l.n) × (last_best ranked_score (ranked l.best (get_or l.scores l.best nan)) (numbered l.i (drop l.i (take l.n l.scores))) ≡ last_best ranked_score (ranked 0 (get_or l.scores 0 nan)) (numbered 1 (drop 1 (take l.n l.scores))))
