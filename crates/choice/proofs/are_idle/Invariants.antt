-- One place after another; the first that is not idle decides.
use Prim.Native.Nat.{◌+◌, ◌-◌}
use mathlib.Core.Path.{◌≡◌}
use lib.ListN.{take}
use Rattle.choice.specs.Sums.{idle_at, idle_from}
use Rattle.choice.proofs.are_idle.Given as goal

abbrev pub invariant-loop-at : goal.invariant-loop-at
invariant-loop-at l = idle_from (idle_at (take l.count l.objectives) l.sizes l.rows l.rated l.sums l.first l.found l.many l.top) l.at (l.from + l.rest - l.at) ≡ idle_from (idle_at (take l.count l.objectives) l.sizes l.rows l.rated l.sums l.first l.found l.many l.top) l.from l.rest
