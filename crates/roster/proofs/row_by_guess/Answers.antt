-- A guess that has the player is the only row that has.
use native.Mathlib.Omega.{arith}
use Rattle.roster.proofs.Laws.{only_row}
use Rattle.roster.proofs.row_by_guess.Goals as goal

pub returns-then-ids-guess : goal.returns-then-ids-guess
returns-then-ids-guess c =
    only_row c.args.player c.args.ids.now _ c.requires (omega arith) c.if-ids-guess.true
