-- Document 02, 2.1 and 2.2: the law of greedy's copies reaches no further. A copy that stands before its entry, one with another
-- rating, and one that joined earlier can each take a seat: queues by computation, one against one.
use Prim.Native.Nat.{ℕ}
use mathlib.Core.Path.{◌≡◌, refl}
use mathlib.Core.List.{List, [], ◌∷◌}
use lib.Ieee.{Float, binary64, add, sub, div, lt, eq, ne, is_nan, of_int, of_bits, round}
use Rattle.base.specs.Floats.{abs_of}
use Rattle.base.specs.Lists.{seek, keep}
use Rattle.queue.specs.declared.QueueEntry.{QueueEntry}
use Rattle.roster.specs.Roster.{of_ratings, observe}
use Rattle.matchmaker.specs.Quality.{MatchState, average_from}
use Rattle.seating.specs.Seating.{lineup}
use Rattle.seating.specs.Turns.{grown}
use Rattle.greedy.specs.Greedy.{goes_before, closer, filled, anchored, greedy_matches}

-- 990.0, 1000.0 and 1010.0
abbrev r990 : Float
r990 = of_bits binary64 0x408e_f000_0000_0000

abbrev r1000 : Float
r1000 = of_bits binary64 0x408f_4000_0000_0000

abbrev r1010 : Float
r1010 = of_bits binary64 0x408f_9000_0000_0000

-- an entry that joined at a time, and one that joined at 5, as all do but one
abbrev joining : ℕ → ℕ → Float → QueueEntry
joining joined player rating = record { player = player; joined = joined; rating = rating; party = 0; role = 0 }

abbrev entry : ℕ → Float → QueueEntry
entry = joining 5

-- one against one; nobody needs a row
abbrev paired : List QueueEntry → List MatchState
paired = greedy_matches (record { a = 1; b = 1 }) (of_ratings [] [])

-- guest 1, and two who are equally near
abbrev pub guests : List QueueEntry
guests = entry 1 r1000 ∷ entry 2 r1010 ∷ entry 3 r990 ∷ []

-- guest 3 once more, before the entry that is copied
abbrev pub ahead : List QueueEntry
ahead = entry 1 r1000 ∷ entry 3 r990 ∷ entry 2 r1010 ∷ entry 3 r990 ∷ []

-- guest 3 once more behind it, rated as guest 1 is
abbrev pub rated : List QueueEntry
rated = entry 1 r1000 ∷ entry 2 r1010 ∷ entry 3 r990 ∷ entry 3 r1000 ∷ []

-- guest 3 once more behind it, who joined before all others
abbrev pub earlier : List QueueEntry
earlier = entry 1 r1000 ∷ entry 2 r1010 ∷ entry 3 r990 ∷ joining 4 3 r990 ∷ []

-- guest 2 sits with guest 1, and in the other queues guest 3 does
pub greedy_parts : (paired guests ≡ lineup (1 ∷ []) (2 ∷ []) ∷ []) × (paired ahead ≡ lineup (1 ∷ []) (3 ∷ []) ∷ [])
    × (paired rated ≡ lineup (1 ∷ []) (3 ∷ []) ∷ []) × (paired earlier ≡ lineup (1 ∷ []) (3 ∷ []) ∷ [])
unfolding abs_of seek keep observe average_from grown goes_before closer filled anchored add sub div lt eq ne is_nan of_int of_bits round
greedy_parts = (refl, refl, refl, refl)
