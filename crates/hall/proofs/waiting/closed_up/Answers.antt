-- A row moved up by one: what stands before the place, and behind it what is moved.
use borrow.Author.Rules.{rules}
use native.Mathlib.Omega.{arith}
use mathlib.Core.Path.{◌≡◌, ap, ◌∙◌}
use Prim.Native.Nat.{ℕ, ◌+◌, ◌-◌, ◌≤◌}
use lib.ListN.{length, take, drop, length-drop}
use lib.Seq.{paste, take-take, take-paste}
use Rattle.std.proofs.lemmas.List.{drop-take}
use Rattle.base.proofs.Arrays.{unmapped}
use Rattle.hall.proofs.waiting.closed_up.Goals as goal

pub returns : goal.returns
returns c =
    let a = c.args in
    let bs = a.bookings in
    let w : length bs ≡ 64 = search (unmapped, rules) in
    let m = a.n - (a.at + 1) in
    let before : a.at ≤ a.n = omega (arith, c.requires) in
    let z : a.n - 1 ≡ a.at + m = omega (arith, c.requires) in
    let y : a.n ≡ a.at + 1 + m = omega (arith, c.requires) in
    let moved : drop (a.at + 1) (take a.n bs) ≡ take m (drop (a.at + 1) bs) = ap (λ (k : ℕ). drop (a.at + 1) (take k bs)) y ∙ drop-take (a.at + 1) m bs in
    let laid : c.copy_within.new.self ≡ paste bs a.at (drop (a.at + 1) bs) m = grind arith in
    ap (λ (k : ℕ). take k c.copy_within.new.self) z
    ∙ ap (take (a.at + m)) laid
    ∙ take-paste bs a.at (drop (a.at + 1) bs) m (omega (arith, c.requires, w)) (omega (arith, c.requires, w, length-drop (a.at + 1) bs))
    ∙ rw (take-take a.at a.n bs before, moved)
