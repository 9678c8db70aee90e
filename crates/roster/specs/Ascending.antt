-- Steps of the duplicate check: ids that strictly ascend. No public contract cites this.
use Rattle.std.specs.Prelude.{ℕ, Bool, true, false, cond, List, [], ◌∷◌, ltb}

-- does each stand above the one before, the first above x?
unfoldable pub ascends_from : ℕ → List ℕ → Bool
ascends_from x [] = true
ascends_from x (y ∷ ys) = cond (ltb x y) (ascends_from y ys) false

unfoldable pub ascends : List ℕ → Bool
ascends [] = true
ascends (x ∷ xs) = ascends_from x xs
