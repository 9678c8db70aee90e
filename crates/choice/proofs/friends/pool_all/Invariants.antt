-- Each place so far has the sets of its guest's places too, and the others are as they were.
use Prim.Native.Nat.{ℕ, ◌≤◌, ◌<◌}
use mathlib.Core.Path.{◌≡◌}
use lib.Bits.{bit_or}
use lib.ListN.{length, get_or}
use Rattle.choice.specs.Reading.{pooled}
use Rattle.choice.proofs.friends.pool_all.Given as goal

abbrev pub invariant-loop-i : goal.invariant-loop-i
invariant-loop-i l = (length l.out ≡ 64) × ((j : ℕ) → j < l.i → get_or l.out j 0 ≡ bit_or (get_or l.initial.out j 0) (pooled (get_or l.queued j 0) l.queued l.sets)) × ((j : ℕ) → l.i ≤ j → get_or l.out j 0 ≡ get_or l.initial.out j 0)
