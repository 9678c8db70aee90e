-- The refusal's number, and nothing handed out.
use Prim.Native.Nat.{ℕ}
use mathlib.Core.Path.{ap}
use Rattle.hall.proofs.rounds.refuses.Goals as goal

pub returns : goal.returns
returns c = ap (λ (n : ℕ). record { count = 0; seats = 0; tried = 0; refusal = n }) c.number.ensures
