-- The limits that are left decide.
use Prim.Native.Nat.{◌-◌}
use mathlib.Core.Path.{◌≡◌}
use Rattle.choice.specs.Reading.{in_limits}
use Rattle.choice.proofs.tally.are_within.Given as goal

abbrev pub invariant-loop : goal.invariant-loop
invariant-loop l = in_limits (l.asked - l.counter) l.c l.l l.m ≡ in_limits l.asked l.counts l.least l.most
