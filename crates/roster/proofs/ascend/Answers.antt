-- What went by ascends and the rest ascends from the last id exactly where all ids ascend.
use native.Mathlib.Omega.{arith}
use Rattle.base.proofs.Sheets.{rest}
use Rattle.roster.proofs.Laws.{ascends_none, ascends_start, ascends_on, ascends_end}
use Rattle.roster.proofs.ascend.Goals as goal

pub returns-then-ids-eq0 : goal.returns-then-ids-eq0
returns-then-ids-eq0 c = ascends_none c.args.ids.now c.if-ids-eq0.true

pub loop-id-init : goal.loop-id-init
loop-id-init c = rw (rest c.args.ids.now 1) (ascends_start c.args.ids.now c.if-ids-eq0.false)

pub loop-id-preserved : goal.loop-id-preserved
loop-id-preserved c =
    let l = c.loop-id in
    ascends_on l.rising l.last _ l.id-index l.invariant (omega arith)

pub returns : goal.returns
returns c =
    let l = c.loop-id in
    ascends_end l.rising l.last _ l.id-index l.invariant (omega arith)
