-- What a call over a lent hall comes to.
use Rattle.std.specs.Prelude.{ℕ}
use Rattle.hall.specs.declared.Hall.{Hall}
use Rattle.hall.specs.Hall.{Turn}
use Rattle.capi.specs.Halls.{turn_in}

-- the hall as it was left and the answer: the turn of a call by value that returned both
abbrev pub lent_turn : Hall → ℕ → Turn
lent_turn h n = turn_in (record { hall = h; refusal = n })
