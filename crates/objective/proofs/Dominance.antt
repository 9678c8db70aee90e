-- Dominance is strict: nothing dominates itself, and of two at most one dominates the other.
use mathlib.Core.Path.{◌≡◌, refl, sym}
use mathlib.Core.Bool.{Bool, true, false, not, ◌&&◌, true≢false}
use mathlib.Core.List.{List, [], ◌∷◌}
use lib.Ieee.{Float}
use Rattle.base.proofs.Order.{lt_irrefl}
use Rattle.objective.specs.declared.pareto.MatchObjectiveVector.{MatchObjectiveVector}
use Rattle.objective.specs.Pareto.{any_below, against, dominates_of}

-- no list has a float below its counterpart of the same list
below_itself : (xs : List Float) → any_below xs xs ≡ false
unfolding any_below
below_itself [] = refl
below_itself (x ∷ xs) = rw (lt_irrefl x) (below_itself xs)

-- a vector does not dominate itself, not even one of NaN
pub not_itself : (v : MatchObjectiveVector) → dominates_of v v ≡ false
unfolding dominates_of
not_itself v = rw (below_itself (against v v))

one_way : (a b : Bool) → (not a && b) ≡ true → (not b && a) ≡ false
one_way true b h = absurd (true≢false (sym h))
one_way false true h = refl
one_way false false h = refl

-- what a vector dominates does not dominate it back
pub not_back : (v w : MatchObjectiveVector) → dominates_of v w ≡ true → dominates_of w v ≡ false
unfolding dominates_of
not_back v w = one_way (any_below (against v w) (against w v)) (any_below (against w v) (against v w))
