-- Document 02, 2.4, "Several games under one roof": the sizes of a game, its bookings, and which game's turn it is.
use Rattle.std.specs.Prelude.{ℕ, ◌+◌, ◌%◌, Bool, not, cond, ◌&&◌, ◌||◌, List, [], ◌∷◌, map, eqb, ltb, leb, length, get_or}
use Rattle.std.specs.Prelude.{Option, None, Some}
use Rattle.base.specs.Lists.{seek, any, keep}
use Rattle.seating.specs.declared.TeamComposition.{TeamComposition}
use Rattle.seating.specs.Seating.{sizes_over, seats_of}
use Rattle.hall.specs.declared.Booking.{Booking}

-- ---- a game

-- refusal 13: "for a game number above 7"
abbrev pub is_no_game : ℕ → Bool
is_no_game g = ltb 7 g

-- "An unused game has sizes 0 and 0"
abbrev pub unused : TeamComposition
unused = record { a = 0; b = 0 }

-- the sizes of a game, game by game from 0 on
abbrev pub sizes_for : List TeamComposition → ℕ → TeamComposition
sizes_for sizes g = get_or sizes g unused

-- "that game's .. entries alone": whom a round of the game may seat
abbrev pub eligible : ℕ → List Booking → List Booking
eligible g = keep (λ b. eqb b.game g)

-- where there is no game, nobody has a seat and nobody may be seated
abbrev pub sizes_by : List TeamComposition → Option ℕ → TeamComposition
sizes_by sizes None = unused
sizes_by sizes (Some g) = sizes_for sizes g

abbrev pub eligible_by : Option ℕ → List Booking → List Booking
eligible_by None ws = []
eligible_by (Some g) ws = eligible g ws

-- ---- the last game served

-- the number that stands for no game
abbrev pub no_game : ℕ
no_game = 255

-- the game that a number stands for, if it is not that one
abbrev pub game_in : ℕ → Option ℕ
game_in n = cond (eqb n no_game) None (Some n)

-- "a last game served neither 0 to 7 nor none"
abbrev pub no_last_game : ℕ → Bool
no_last_game served = is_no_game served && not (eqb served no_game)

-- refusal 1: that, or "a size over 8" in any game
abbrev pub games_over : List TeamComposition → ℕ → Bool
games_over sizes served = any sizes_over sizes || no_last_game served

-- ---- whose turn it is

-- "A + B above 0 and at least that many waiting"
abbrev pub enough_for : TeamComposition → ℕ → Bool
enough_for s waiting = ltb 0 (seats_of s) && leb (seats_of s) waiting

unfoldable pub enough : List TeamComposition → List Booking → ℕ → Bool
enough sizes ws g = enough_for (sizes_for sizes g) (length (eligible g ws))

-- "circular order, after the last one served": the eight games, the last one served as the eighth.
-- "the first dispatch begins at game 0": where none was served so does this, since 255 + 1 is a multiple of 8.
abbrev pub turn_at : ℕ → ℕ → ℕ
turn_at last i = (last + i) % 8

abbrev pub circle : ℕ → List ℕ
circle last = map (turn_at last) (1 ∷ 2 ∷ 3 ∷ 4 ∷ 5 ∷ 6 ∷ 7 ∷ 8 ∷ [])

-- "the next game in circular order": the first of them that is ready, if one is
abbrev pub next_game : (ℕ → Bool) → ℕ → Option ℕ
next_game ready last = seek ready Some None (circle last)
