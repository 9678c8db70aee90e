-- A search among the first keys: what is done and the place in the rest make the place in the whole.
use mathlib.Core.Path.{◌≡◌}
use Prim.Native.Nat.{◌+◌}
use lib.Dec.{eqb}
use lib.ListN.{drop}
use Rattle.base.specs.Lists.{place}
use Rattle.hall.proofs.notes.place_of.Given as goal

abbrev pub invariant-loop-i : goal.invariant-loop-i
invariant-loop-i l = place (λ x. eqb x l.key) l.book ≡ l.i + place (λ x. eqb x l.key) (drop l.i l.book)
