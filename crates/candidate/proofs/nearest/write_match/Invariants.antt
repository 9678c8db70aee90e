-- A copy from the front of the part: the players at the places so far, and the part beyond.
use mathlib.Core.Path.{◌≡◌}
use mathlib.Core.List.{◌++◌, map}
use lib.ListN.{take, drop, get_or}
use Rattle.candidate.proofs.nearest.write_match.Given as goal

abbrev pub invariant-loop-i : goal.invariant-loop-i
invariant-loop-i l = l.part ≡ take l.i (map (λ p. get_or l.waiting p 0) l.places) ++ drop l.i l.initial.part
