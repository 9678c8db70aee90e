-- `seating::write_team` meets its contract. A copy over the front: so many of the players, and the sheet beyond.
use mathlib.Core.Path.{ap, ◌∙◌}
use mathlib.Core.List.{List, ◌++◌}
use Prim.Native.Nat.{ℕ}
use native.Mathlib.Omega.{arith}
use lib.ListN.{drop}
use Rattle.seating.proofs.Laws.{copied}
use Rattle.seating.proofs.write_team.Goals as goal

pub returns : goal.returns
returns c =
    let t = c.args.team in
    let d = c.args.sheet.now in
    let n = c.at_most-n.result in
    ap (λ (l : List ℕ). l ++ drop n d) c.copy_from_slice.ensures.after ∙ copied t.len t.players d n (omega (arith, c.at_most-n.ensures, c.held.ensures))
