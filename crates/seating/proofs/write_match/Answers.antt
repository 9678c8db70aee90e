-- `seating::write_match` meets its contract: two rows, the second into the part behind the first.
use Prim.Native.Nat.{ℕ, min}
use mathlib.Core.Path.{ap, ◌∙◌}
use lib.ListN.{length, take}
use Rattle.seating.proofs.Laws.{lent_second}
use Rattle.seating.proofs.write_match.Goals as goal

pub returns : goal.returns
returns c =
    let s = c.args in
    let a = c.args.proposed.a in
    let b = c.args.proposed.b in
    let k = c.at_most-at in
    let e = k.ensures ∙ ap (λ (n : ℕ). min n (length s.sheet.now)) c.held.ensures in
    lent_second (take a.len a.players) (take b.len b.players) s.sheet.now k.result e c.write_team.ensures c.write_team-2.ensures
