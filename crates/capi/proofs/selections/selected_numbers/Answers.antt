-- No place where it is refused, else the places that are held.
use mathlib.Core.Path.{◌≡◌, refl, ap, ◌∙◌}
use Prim.Native.Nat.{ℕ}
use native.Mathlib.Omega.{arith}
use lib.ListN.{length, take, length-take}
use Rattle.base.proofs.Arrays.{take_held}
use borrow.Author.Rules.{rules}
use Rattle.capi.proofs.selections.selected_numbers.Goals as goal

pub returns-in-Ok : goal.returns-in-Ok
returns-in-Ok c =
    let s = c.args.selected in
    let f : length s.places ≡ 64 = search rules in
    let e = ap (λ (n : ℕ). take n s.places) c.at_most.ensures ∙ take_held s.places s.count 64 f in
    rw c.in-Ok.is
    (record { places = e; len = omega (arith, length-take s.count s.places, c.at_most.ensures); refusal = refl })
