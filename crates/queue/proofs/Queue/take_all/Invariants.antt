-- Two rows are written from one: each holds what it has so far, and the rest gives what is missing.
use Rattle.std.proofs.Common.{◌≡◌, ◌≤◌, ◌++◌, length, take, drop}
use Rattle.queue.specs.Queue.{without_all, of_all}
use Rattle.queue.proofs.Queue.take_all.Given as goal

abbrev pub invariant-loop-i : goal.invariant-loop-i
invariant-loop-i l = (l.k ≤ l.i) × (l.m ≤ l.i) × (length l.stay ≡ 64) × (length l.gone ≡ 64) × (take l.k l.stay ++ without_all l.players (drop l.i (take l.n l.self.entries)) ≡ without_all l.players (take l.n l.self.entries)) × (take l.m l.gone ++ of_all l.players (drop l.i (take l.n l.self.entries)) ≡ of_all l.players (take l.n l.self.entries))
