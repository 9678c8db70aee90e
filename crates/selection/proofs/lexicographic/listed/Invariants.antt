-- What is listed and the rest of the candidates make the whole list.
use mathlib.Core.Path.{◌≡◌}
use mathlib.Core.List.{◌++◌, map}
use lib.ListN.{length, take, drop}
use Rattle.matchmaker.specs.Quality.{match_of}
use Rattle.selection.specs.Selection.{placed}
use Rattle.selection.specs.Steps.{still_in_of}
use Rattle.selection.proofs.lexicographic.listed.Given as goal

abbrev pub invariant-loop-i : goal.invariant-loop-i
invariant-loop-i l = (length l.kept ≡ 64) × (map still_in_of (take l.i l.kept) ++ placed l.i (map match_of (drop l.i (take l.n l.candidates))) ≡ placed 0 (map match_of (take l.n l.candidates)))
