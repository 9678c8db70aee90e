-- `Team::held` meets its contract: a stated length over 8 holds all 8 places, another as many as it says.
use Rattle.std.proofs.Common.{◌≡◌, length, arith, length-take, rules}
use Rattle.base.proofs.Arrays.{unmapped}
use Rattle.matchmaker.proofs.Team.held.Goals as goal

pub returns : goal.returns
returns c =
    let t = c.args.self in
    let l : length t.players ≡ 8 = search (unmapped, rules) in
    omega (arith, c.at_most.ensures, length-take t.len t.players)
