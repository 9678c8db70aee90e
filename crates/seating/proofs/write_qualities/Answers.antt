-- `seating::write_qualities` meets its contract. A copy over the front: so many of the qualities, and the sheet beyond.
use mathlib.Core.Path.{◌≡◌, ap, ◌∙◌}
use mathlib.Core.List.{List, ◌++◌}
use native.Mathlib.Omega.{arith}
use lib.Ieee.{Float}
use lib.ListN.{length, drop, length-take}
use Rattle.seating.proofs.Laws.{copied}
use borrow.Author.Rules.{rules}
use Rattle.seating.proofs.write_qualities.Goals as goal

pub returns : goal.returns
returns c =
    let s = c.args in
    let w : length s.qualities ≡ 64 = search rules in
    let n = c.at_most-many.result in
    ap (λ (l : List Float). l ++ drop n s.sheet.now) c.copy_from_slice.ensures.after
    ∙ copied s.n s.qualities s.sheet.now n (omega (arith, c.at_most-many.ensures, c.at_most.ensures, length-take s.n s.qualities))
