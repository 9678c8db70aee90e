-- `Matches::held` meets its contract: a stated number over 64 holds all 64 places, another holds as many as it says.
use mathlib.Core.Path.{◌≡◌}
use native.Mathlib.Omega.{arith}
use lib.ListN.{length, take, length-map, length-take}
use Rattle.base.proofs.Arrays.{unmapped}
use Rattle.matchmaker.specs.Quality.{match_of}
use borrow.Author.Rules.{rules}
use Rattle.seating.proofs.Matches.held.Goals as goal

pub returns : goal.returns
returns c =
    let m = c.args.self in
    let l : length m.items ≡ 64 = search (unmapped, rules) in
    omega (arith, c.at_most.ensures, length-map (take m.len m.items) match_of, length-take m.len m.items)
