-- Steps of the score, as the code takes them: waits are read from the columns of those who wait. No public contract cites these.
use Rattle.std.specs.Prelude.{ℕ, List, Float}
use Rattle.std.specs.Prelude.{Option, option_map}
use Rattle.queue.specs.Time.{since, seconds_of}
use Rattle.roster.specs.Roster.{observe}

-- the wait of a player in seconds, by who waits and since when
abbrev pub column_wait : ℕ → List ℕ → List ℕ → ℕ → Option Float
column_wait clock players joined player = option_map (λ t. seconds_of (since clock t)) (observe players joined player)
