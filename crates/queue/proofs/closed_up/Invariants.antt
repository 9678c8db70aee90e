-- A row moved up by one: what is written and what is left make the row without the one at `at`.
use Rattle.std.proofs.Common.{◌≡◌, ◌+◌, ◌<◌, ◌≤◌, ◌++◌, length, take, drop}
use Rattle.queue.proofs.closed_up.Given as goal

abbrev pub invariant-loop-k : goal.invariant-loop-k
invariant-loop-k l = (l.at ≤ l.k) × (l.k < l.n) × (length l.out ≡ 64) × (take l.k l.out ++ drop (l.k + 1) (take l.n l.entries) ≡ take l.at (take l.n l.entries) ++ drop (l.at + 1) (take l.n l.entries))
