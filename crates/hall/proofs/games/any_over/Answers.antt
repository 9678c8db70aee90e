-- A search: the rest gives what the whole gives.
use borrow.Author.Rules.{rules}
use native.Mathlib.Omega.{arith}
use mathlib.Core.Path.{◌≡◌, sym, ◌∙◌}
use lib.ListN.{length}
use Rattle.base.proofs.Arrays.{unmapped}
use Rattle.base.proofs.Loops.{seek_hit, seek_on, seek_end}
use Rattle.seating.specs.Seating.{sizes_over}
use Rattle.hall.specs.Games.{unused}
use Rattle.hall.proofs.games.any_over.Goals as goal

pub returns-then-is_over : goal.returns-then-is_over
returns-then-is_over c =
    let s = c.args in
    let w : length s.sizes ≡ 8 = search (unmapped, rules) in
    seek_hit sizes_over _ _ s.sizes c.loop-g.g unused c.loop-g.invariant (omega arith) (sym c.is_over.ensures ∙ c.if-is_over.true)

pub loop-g-preserved : goal.loop-g-preserved
loop-g-preserved c =
    let s = c.args in
    let w : length s.sizes ≡ 8 = search (unmapped, rules) in
    seek_on sizes_over _ _ s.sizes c.loop-g.g unused c.loop-g.invariant (omega arith) (sym c.is_over.ensures ∙ c.if-is_over.false)

pub returns : goal.returns
returns c =
    let s = c.args in
    let w : length s.sizes ≡ 8 = search (unmapped, rules) in
    seek_end sizes_over _ _ s.sizes c.loop-g.g c.loop-g.invariant (omega arith)
