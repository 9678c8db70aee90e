-- What is listed and the rest of the candidates make the whole list.
use Prim.Native.Nat.{ℕ}
use mathlib.Core.Path.{◌≡◌, ap, ◌∙◌}
use mathlib.Core.List.{map}
use native.Mathlib.Omega.{arith}
use lib.ListN.{take, length-set}
use Rattle.selection.specs.Steps.{still_in_of}
use Rattle.selection.proofs.Laws.{listed_on, listed_end}
use Rattle.selection.proofs.lexicographic.listed.Goals as goal

pub loop-i-preserved : goal.loop-i-preserved
loop-i-preserved c =
    let s = c.args in
    let l = c.loop-i in
    (simp length-set l.invariant.0, listed_on s.candidates s.n l.i (omega arith) l.kept l.invariant.1 _ (omega arith) (omega arith))

pub returns : goal.returns
returns c =
    let s = c.args in
    let l = c.loop-i in
    let e : s.n ≡ l.i = omega arith in
    (ap (λ (k : ℕ). map still_in_of (take k l.kept)) e ∙ listed_end s.candidates s.n l.i (omega arith) l.kept l.invariant.1 (omega arith) (omega arith), omega arith)
