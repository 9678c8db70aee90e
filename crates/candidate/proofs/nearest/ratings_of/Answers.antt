-- The rows of the players are found, and what is written so far are the ratings in the first of them.
use mathlib.Core.Path.{◌≡◌, ◌∙◌}
use native.Mathlib.Omega.{arith}
use lib.ListN.{length, replicate}
use Rattle.candidate.proofs.Laws.{ratings_read}
use Rattle.candidate.proofs.nearest.ratings_of.Goals as goal

pub returns : goal.returns
returns c =
    let a = c.args in
    let e : c.loop-i.i ≡ length a.players.now = omega arith in
    rw e at c.loop-i.invariant.2 ∙ ratings_read a.ids.now a.players.now (replicate 64 0) a.ratings.now c.requires.1 c.checked_rows.ensures.rows_after (omega arith)
