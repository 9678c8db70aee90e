-- Document 02, 2.1: what holds of greedy's matches does not hold of the beam's. Two queues that part, by computation: the copy
-- takes a place in the width, and a partial match that led to the better match is no longer kept.
use Prim.Native.Nat.{ℕ}
use mathlib.Core.Path.{◌≡◌, refl, sym, ap, ◌∙◌}
use mathlib.Core.List.{List, [], ◌∷◌}
use native.Mathlib.Omega.{arith}
use lib.Ieee.{Float, binary64, add, sub, mul, div, lt, eq, ne, is_nan, of_int, of_bits, round}
use lib.ListN.{get_or}
use Rattle.base.specs.Floats.{zero, one, abs_of, min_of}
use Rattle.base.specs.Lists.{seek, keep, distinct}
use Rattle.base.specs.Ranking.{insert_by}
use Rattle.base.specs.Refusals.{Outcome, refused, gives}
use Rattle.queue.specs.Time.{seconds_of}
use Rattle.queue.specs.Queue.{holding}
use Rattle.queue.specs.declared.QueueEntry.{QueueEntry}
use Rattle.roster.specs.Roster.{Roster, of_deviations, observe}
use Rattle.matchmaker.specs.Quality.{MatchState, quality_at, observations, average_from}
use Rattle.objective.specs.Score.{longer, score_from}
use Rattle.objective.specs.declared.score.MatchObjective.{MatchObjective}
use Rattle.seating.specs.declared.TeamComposition.{TeamComposition}
use Rattle.seating.specs.Seating.{lineup, seats}
use Rattle.seating.specs.Turns.{grown}
use Rattle.beam.specs.Beam.{expansions, stepped, steps, beam_of, beaming, beam_matches, beam_check}
use Rattle.greedy.specs.Copies.{Copied, plain, more}

-- 1000.0, 1100.0 and 1200.0
abbrev r1000 : Float
r1000 = of_bits binary64 0x408f_4000_0000_0000

abbrev r1100 : Float
r1100 = of_bits binary64 0x4091_3000_0000_0000

abbrev r1200 : Float
r1200 = of_bits binary64 0x4092_c000_0000_0000

abbrev entry : ℕ → Float → QueueEntry
entry player rating = record { player = player; joined = 0; rating = rating; party = 0; role = 0 }

-- guests 1 to 4, rated 1000, 1000, 1100, 1200, all rostered; and guest 2 once more at the end
abbrev pub guests : List QueueEntry
guests = entry 1 r1000 ∷ entry 2 r1000 ∷ entry 3 r1100 ∷ entry 4 r1200 ∷ []

abbrev pub doubled : List QueueEntry
doubled = entry 1 r1000 ∷ entry 2 r1000 ∷ entry 3 r1100 ∷ entry 4 r1200 ∷ entry 2 r1000 ∷ []

pub is_copied : Copied guests doubled
is_copied = more (entry 1 r1000 ∷ []) (entry 3 r1100 ∷ entry 4 r1200 ∷ []) [] (entry 2 r1000) (entry 2 r1000) plain (record { player = refl; rating = refl; joined = omega arith })

abbrev pub rostered : Roster
rostered = of_deviations (1 ∷ 2 ∷ 3 ∷ 4 ∷ []) (r1000 ∷ r1000 ∷ r1100 ∷ r1200 ∷ []) (zero ∷ zero ∷ zero ∷ zero ∷ [])

-- two against one, a width of 2, by quality alone
abbrev pub sizes : TeamComposition
sizes = record { a = 2; b = 1 }

abbrev pub by_quality : MatchObjective
by_quality = record { quality = one; wait = zero; ping = zero; uncertainty = zero }

abbrev pub beamed : List QueueEntry → Outcome (List MatchState)
beamed queue = beam_matches (beaming sizes 2 by_quality rostered queue 0) queue

-- neither is refused, and the matches differ
pub beam_parts : (beam_check sizes 2 rostered (holding guests) 0 64 64 ≡ gives tt) × (beam_check sizes 2 rostered (holding doubled) 0 64 64 ≡ gives tt)
    × (beamed guests ≡ gives (lineup (1 ∷ 4 ∷ []) (3 ∷ []) ∷ [])) × (beamed doubled ≡ gives (lineup (1 ∷ 3 ∷ []) (2 ∷ []) ∷ []))
unfolding quality_at abs_of min_of seek keep observe observations average_from grown insert_by expansions stepped steps beam_of seats seconds_of longer score_from distinct mul add div sub lt eq ne is_nan of_int of_bits round
beam_parts = (refl, refl, refl, refl)

-- the second seat of all
abbrev second : Outcome (List MatchState) → ℕ
second (refused n) = 0
second (gives ms) = get_or (seats ms) 1 0

-- so the beam has no law of copies
pub beam_has_none : ((s : TeamComposition) (width : ℕ) (o : MatchObjective) (r : Roster) (clock : ℕ) (queue other : List QueueEntry) → Copied queue other →
    beam_matches (beaming s width o r other clock) other ≡ beam_matches (beaming s width o r queue clock) queue) → ⊥
unfolding seats
beam_has_none h =
    let e : beamed doubled ≡ beamed guests = h sizes 2 by_quality rostered 0 guests doubled is_copied in
    let k : second (gives (lineup (1 ∷ 3 ∷ []) (2 ∷ []) ∷ [])) ≡ second (gives (lineup (1 ∷ 4 ∷ []) (3 ∷ []) ∷ [])) = ap second (sym beam_parts.3 ∙ e ∙ beam_parts.2) in
    let z : ◌≡◌ {A = ℕ} 3 4 = k in
    omega (arith, z)
