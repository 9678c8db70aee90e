-- A number that is no game's, or the game's own sizes.
use borrow.Author.Rules.{rules}
use mathlib.Core.Path.{◌≡◌}
use lib.ListN.{length}
use Rattle.base.proofs.Arrays.{unmapped}
use Rattle.hall.proofs.GameLaws.{sizes_none}
use Rattle.hall.proofs.games.sizes_of.Goals as goal

pub returns-then-game-gt7 : goal.returns-then-game-gt7
returns-then-game-gt7 c =
    let s = c.args in
    let w : length s.sizes ≡ 8 = search (unmapped, rules) in
    sizes_none s.sizes s.game w c.if-game-gt7.true
