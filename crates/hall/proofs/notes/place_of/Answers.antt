-- A search among the first keys of the column: what is done and the place in the rest make the place in the whole.
use mathlib.Core.Path.{◌≡◌, refl, ap, ◌∙◌}
use mathlib.Core.Bool.{Bool, true, false}
use Prim.Native.Nat.{ℕ}
use native.Mathlib.Omega.{arith}
use Rattle.std.proofs.Common.{rules}
use borrow.Author.Tests.{tests}
use lib.Dec.{eqb}
use lib.ListN.{length, take, get_or}
use Rattle.base.specs.Lists.{place}
use Rattle.base.proofs.Arrays.{take_held}
use Rattle.base.proofs.Loops.{place_hit, place_on, place_end, place_fits}
use Rattle.hall.proofs.notes.place_of.Goals as goal

pub loop-i-init : goal.loop-i-init
loop-i-init c = omega arith

pub returns-then-is_key : goal.returns-then-is_key
returns-then-is_key c =
    let s = c.args in
    let is : ℕ → Bool = λ x. eqb x s.key in
    let book = take c.at_most.result s.keys.now in
    let same : book ≡ take s.n s.keys.now = ap (λ (m : ℕ). take m s.keys.now) c.at_most.ensures ∙ take_held s.keys.now s.n (length s.keys.now) refl in
    let hit : eqb (get_or book c.loop-i.i 0) s.key ≡ true = search (rules, tests) in
    place_hit is book c.loop-i.i 0 c.loop-i.invariant c.loop-i-test.true hit ∙ ap (place is) same

pub loop-i-preserved : goal.loop-i-preserved
loop-i-preserved c =
    let s = c.args in
    let is : ℕ → Bool = λ x. eqb x s.key in
    let book = take c.at_most.result s.keys.now in
    let miss : eqb (get_or book c.loop-i.i 0) s.key ≡ false = search (rules, tests) in
    place_on is book c.loop-i.i 0 c.loop-i.invariant c.loop-i-test.true miss

pub returns : goal.returns
returns c =
    let s = c.args in
    let is : ℕ → Bool = λ x. eqb x s.key in
    let book = take c.at_most.result s.keys.now in
    let same : book ≡ take s.n s.keys.now = ap (λ (m : ℕ). take m s.keys.now) c.at_most.ensures ∙ take_held s.keys.now s.n (length s.keys.now) refl in
    let none : c.loop-i.i ≡ place is book = place_end is book c.loop-i.i c.loop-i.invariant c.loop-i-test.false in
    let all : length book ≡ place is book = omega (arith, place_fits is book) in
    all ∙ ap (place is) same
