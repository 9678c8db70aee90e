-- The marks and the sheets so far are what that many anchors make, and the column of those who are free goes with the marks.
use mathlib.Core.Path.{◌≡◌}
use lib.ListN.{length}
use Rattle.roster.specs.Roster.{of_ratings}
use Rattle.greedy.specs.Steps.{columns, free_of, paper_of}
use Rattle.greedy.proofs.Papers.{Reached}
use Rattle.greedy.proofs.match_all.Given as goal

abbrev pub invariant-loop-i : goal.invariant-loop-i
invariant-loop-i l = (l.free ≡ free_of l.entered l.used)
    × Reached l.sizes (columns l.players l.entered l.rostered) l.turns (length l.players) (of_ratings l.ids l.ratings) l.initial.seats l.initial.qualities l.i l.used (paper_of l.written l.seats l.qualities)
