-- Document 01, "Off demand 3's path": the nearest generator (`GreedyNearestGenerator`).
use Rattle.std.specs.Prelude.{ℕ, zero, suc, Bool, not, cond, ◌&&◌, List, [], ◌∷◌, map, ltb, eqb, Float, length, take, drop, unwrap_or}
use Rattle.std.specs.Float.{binary64}
use Rattle.std.specs.Float.Ieee.{of_bits}
use Rattle.base.specs.Floats as Floats
use Rattle.base.specs.Refusals.{refused, gives, guarded}
use Rattle.base.specs.Ranking.{lower, sort_by, unrankable}
use Rattle.queue.specs.declared.QueueEntry.{QueueEntry}
use Rattle.queue.specs.Queue.{QueueState}
use Rattle.roster.specs.Roster.{Roster, rating_of}
use Rattle.matchmaker.specs.Quality.{MatchState}
use Rattle.seating.specs.declared.TeamComposition.{TeamComposition}
use Rattle.seating.specs.Seating.{Sheets, HandedOut, seats_of, lineup, handed_out}
use Rattle.seating.specs.Searching.{search_check}

-- 1000.0
abbrev pub thousand : Float
thousand = of_bits binary64 0x408f_4000_0000_0000

-- a player's rating by the roster: "missing rating 1000.0"
abbrev pub rating_by : Roster → ℕ → Float
rating_by r p = unwrap_or (rating_of r p) thousand

abbrev pub rating_for : Roster → QueueEntry → Float
rating_for r e = rating_by r e.player

-- "stable rising order"
abbrev pub rising : Roster → List QueueEntry → List QueueEntry
rising r = sort_by (lower (rating_for r))

-- "chunks of A + B, at most the given number"; a chunk short of seats is none
unfoldable pub chunks : TeamComposition → ℕ → List ℕ → List MatchState
chunks s zero ps = []
chunks s (suc k) ps =
    cond (ltb (length ps) (seats_of s)) [] (lineup (take s.a ps) (take s.b (drop s.a ps)) ∷ chunks s k (drop (seats_of s) ps))

-- the matches: chunks of the players in that order
abbrev pub nearest_matches : ℕ → TeamComposition → Roster → List QueueEntry → List MatchState
nearest_matches limit s r queue = chunks s limit (map (λ e. e.player) (rising r queue))

-- refusal 5; "fewer entries than seats give none, unranked"
abbrev pub cannot_rank : TeamComposition → Roster → List QueueEntry → Bool
cannot_rank s r queue = not (ltb (length queue) (seats_of s)) && unrankable (map (rating_for r) queue)

-- refusals 1, 2, 3 and 4 of what a search is given, then 12, "nearest generator with A = B = 0", then 5; quality 0.0
abbrev pub nearest_rule : ℕ → TeamComposition → Roster → QueueState → Sheets → HandedOut
nearest_rule limit s r q sheets =
    handed_out (λ m. Floats.zero)
    (guarded (search_check s r q (length sheets.players) (length sheets.qualities))
    (cond (eqb (seats_of s) 0) (refused 12)
    (cond (cannot_rank s r q.entries) (refused 5) (gives (nearest_matches limit s r q.entries)))))
    sheets
