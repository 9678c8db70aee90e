-- `ProposedMatch::seats` meets its contract: both teams together.
use Rattle.std.proofs.Common.{◌≡◌, length, take, sym, length-append, length-take, rules}
use Rattle.base.proofs.Arrays.{unmapped}
use Rattle.matchmaker.proofs.ProposedMatch.seats.Goals as goal

pub overflow_add-result : goal.overflow_add-result
overflow_add-result c =
    let m = c.args.self in
    let u : length m.a.players ≡ 8 = search (unmapped, rules) in
    let v : length m.b.players ≡ 8 = search (unmapped, rules) in
    let x = simp length-take at c.held.ensures in
    let y = simp length-take at c.held-2.ensures in
    search rules

pub returns : goal.returns
returns c =
    let m = c.args.self in
    rw (c.held.ensures, c.held-2.ensures) (sym (length-append (take m.a.len m.a.players) (take m.b.len m.b.players)))
