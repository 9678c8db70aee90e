-- `parties::is_party_seated` meets its contract: the rest of the rows decides what all of them decide.
use mathlib.Core.Path.{sym, ◌∙◌}
use native.Mathlib.Omega.{arith}
use Rattle.constraint.proofs.Meets.{seated_end, seated_short, seated_not, seated_on}
use Rattle.constraint.proofs.parties.is_party_seated.Goals as goal

pub returns-then-parties-row : goal.returns-then-parties-row
returns-then-parties-row c =
    let a = c.args in
    let l = c.loop-row in
    seated_short a.players.now a.party a.ids.now a.parties.now l.row l.invariant (omega arith)

pub returns-then-not-row_passes : goal.returns-then-not-row_passes
returns-then-not-row_passes c =
    let a = c.args in
    let l = c.loop-row in
    seated_not a.players.now a.party a.ids.now a.parties.now l.row l.invariant (omega arith) (omega arith)
    (sym c.row_passes.ensures ∙ c.if-not-row_passes.true)

pub loop-row-preserved : goal.loop-row-preserved
loop-row-preserved c =
    let a = c.args in
    let l = c.loop-row in
    seated_on a.players.now a.party a.ids.now a.parties.now l.row l.invariant (omega arith) (omega arith)
    (sym c.row_passes.ensures ∙ c.if-not-row_passes.false)

pub returns : goal.returns
returns c =
    let a = c.args in
    let l = c.loop-row in
    seated_end a.players.now a.party a.ids.now a.parties.now l.row l.invariant (omega arith)
