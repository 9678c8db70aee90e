-- Document 01, "Greedy": whose turn it is to take a player, and when a match is complete. The beam goes by the same turns.
use Rattle.std.specs.Prelude.{ℕ, ◌+◌, ◌-◌, Bool, cond, ◌&&◌, ◌||◌, [], ◌∷◌, ◌++◌, ltb, leb, eqb, length}
use Rattle.matchmaker.specs.Quality.{MatchState}
use Rattle.seating.specs.declared.TeamComposition.{TeamComposition}
use Rattle.seating.specs.Seating.{team, lineup}

-- an anchor "opens team A"
abbrev pub alone : ℕ → MatchState
alone p = lineup (p ∷ []) []

-- the seats that are left beside an anchor's: A - 1 and B, and B where A is 0
abbrev pub seats_left : TeamComposition → ℕ
seats_left s = s.a - 1 + s.b

-- "A picks if A is short and (A's length is at most B's, or B is full)"
abbrev pub takes_a : TeamComposition → MatchState → Bool
takes_a s m =
    ltb (length m.a.players) s.a && (leb (length m.a.players) (length m.b.players) || eqb (length m.b.players) s.b)

-- the match with one more player by turn, "else B"; where no team is short it stays
unfoldable pub grown : TeamComposition → MatchState → ℕ → MatchState
grown s m p =
    cond (takes_a s m) (record { a = team (m.a.players ++ (p ∷ [])); b = m.b })
    (cond (ltb (length m.b.players) s.b) (record { a = m.a; b = team (m.b.players ++ (p ∷ [])) }) m)

-- "its teams of exactly A and B guests"
abbrev pub complete : TeamComposition → MatchState → Bool
complete s m = eqb (length m.a.players) s.a && eqb (length m.b.players) s.b
