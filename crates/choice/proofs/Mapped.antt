-- What an array's `map` makes, where the closure computes a function.
use Prim.Native.Nat.{ℕ}
use mathlib.Core.Path.{◌≡◌, sym, ◌∙◌}
use mathlib.Core.List.{List, map}
use native.Mathlib.Omega.{arith}
use denote.Param.Members.{Mut}
use lib.ListN.{length, get_or, length-map}
use Rattle.std.specs.Array.{IsMapOf}
use Rattle.std.specs.Fn.{Called}
use Rattle.std.proofs.lemmas.List.{same_lists}
use Rattle.base.proofs.Arrays.{map_at}

module _ {F A B : Type 0} {g : Mut F (A × Unit {0}) B} {f : F} (h : A → B) (xs : List A) {ys : List B} {n : ℕ} where
  pub mapped : IsMapOf g f xs ys n → length xs ≡ n → A → ((x : A) (y : B) (p q : F) → Called g p (x, tt) y q → y ≡ h x) → ys ≡ map h xs
  mapped is long d computes =
      same_lists ys (map h xs) (is.long ∙ sym long ∙ sym (length-map xs h))
      (λ k e less.
      let c = is.at k d e (omega (arith, is.long)) in
      computes (get_or xs k d) (get_or ys k e) c.0 c.1 c.2 ∙ sym (map_at h d e xs k (omega (arith, is.long, long))))
