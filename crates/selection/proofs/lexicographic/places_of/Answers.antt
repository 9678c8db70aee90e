-- An array filled: the place of each that is left.
use Prim.Native.Nat.{ℕ}
use mathlib.Core.Path.{◌≡◌, refl, sym, ap, ◌∙◌}
use mathlib.Core.List.{map, map-map}
use native.Mathlib.Omega.{arith}
use lib.ListN.{length, take, length-map, length-set}
use Rattle.base.proofs.Arrays.{fill_on, unmapped}
use Rattle.selection.specs.Steps.{still_in_of}
use Rattle.selection.proofs.Laws.{counted, listed_length}
use borrow.Author.Rules.{rules}
use Rattle.selection.proofs.lexicographic.places_of.Goals as goal

pub loop-i-preserved : goal.loop-i-preserved
loop-i-preserved c =
    let o = c.args.shortlist in
    let l = c.loop-i in
    let w : length o.candidates ≡ 64 = search (unmapped, rules) in
    (simp length-set l.invariant.0, fill_on (λ x. x.place) o.candidates l.places l.i _ (omega arith) (omega arith) l.invariant.1 refl)

pub returns : goal.returns
returns c =
    let o = c.args.shortlist in
    let l = c.loop-i in
    let w : length o.candidates ≡ 64 = search (unmapped, rules) in
    let e : o.len ≡ l.i = omega arith in
    counted (sym (length-map (map still_in_of (take o.len o.candidates)) (λ k. k.place) ∙ listed_length o.candidates o.len (omega arith)))
    (ap (λ (k : ℕ). take k l.places) e ∙ l.invariant.1 ∙ ap (λ (k : ℕ). map (λ x. x.place) (take k o.candidates)) (sym e)
    ∙ sym (map-map (λ k. k.place) still_in_of (take o.len o.candidates)))
