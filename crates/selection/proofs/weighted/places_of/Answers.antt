-- An array filled to its end: the place of each of the order.
use mathlib.Core.Path.{◌≡◌, refl, sym, ap, ◌∙◌}
use native.Mathlib.Omega.{arith}
use lib.ListN.{length, take, length-map, length-set}
use Rattle.base.proofs.Arrays.{fill_on, filled, take_map, unmapped}
use Rattle.selection.proofs.Laws.{counted}
use borrow.Author.Rules.{rules}
use Rattle.selection.proofs.weighted.places_of.Goals as goal

pub loop-i-preserved : goal.loop-i-preserved
loop-i-preserved c =
    let o = c.args.order in
    let l = c.loop-i in
    let w : length o.ranked ≡ 64 = search (unmapped, rules) in
    (simp length-set l.invariant.0, fill_on (λ x. x.place) o.ranked l.places l.i _ (omega arith) (omega arith) l.invariant.1 refl)

pub returns : goal.returns
returns c =
    let o = c.args.order in
    let l = c.loop-i in
    let w : length o.ranked ≡ 64 = search (unmapped, rules) in
    let e : l.i ≡ 64 = omega arith in
    counted (ap (λ s. s.size) c.requires ∙ sym (length-map (take o.len o.ranked) (λ x. x.place)))
    (ap (take o.len) (filled (λ x. x.place) o.ranked l.places l.i (omega arith) (omega arith) l.invariant.1) ∙ take_map (λ x. x.place) o.len o.ranked)
