-- The shortlist of LexicographicSelection, as the code keeps it. No public contract cites this.
use Rattle.std.specs.Prelude.{List, map, take}
use Rattle.matchmaker.specs.Quality.{match_of}
use Rattle.selection.specs.Selection.{StillIn}
use Rattle.selection.specs.declared.lexicographic.Candidate.{Candidate}
use Rattle.selection.specs.declared.lexicographic.Shortlist.{Shortlist}

abbrev pub still_in_of : Candidate → StillIn
still_in_of c = record { place = c.place; match = match_of c.proposed }

abbrev pub shortlist_of : Shortlist → List StillIn
shortlist_of s = map still_in_of (take s.len s.candidates)
