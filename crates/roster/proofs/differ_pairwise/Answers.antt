-- The rest of the ids decides what all of them decide.
use Prim.Native.Nat.{◌+◌}
use mathlib.Core.Path.{sym, ap, ◌∙◌}
use native.Mathlib.Omega.{arith}
use lib.ListN.{get_or}
use Rattle.base.specs.Lists.{member}
use Rattle.base.proofs.Sheets.{rest}
use Rattle.roster.proofs.Laws.{distinct_not, distinct_on, distinct_end}
use Rattle.roster.proofs.differ_pairwise.Goals as goal

pub returns-then-is_among : goal.returns-then-is_among
returns-then-is_among c =
    let l = c.loop-i in
    let a = c.args in
    distinct_not a.ids.now l.i l.invariant (omega arith) (sym (c.is_among.ensures ∙ ap (member (get_or a.ids.now l.i 0)) (rest a.ids.now (l.i + 1))) ∙ c.if-is_among.true)

pub loop-i-preserved : goal.loop-i-preserved
loop-i-preserved c =
    let l = c.loop-i in
    let a = c.args in
    distinct_on a.ids.now l.i l.invariant (omega arith) (sym (c.is_among.ensures ∙ ap (member (get_or a.ids.now l.i 0)) (rest a.ids.now (l.i + 1))) ∙ c.if-is_among.false)

pub returns : goal.returns
returns c =
    let l = c.loop-i in
    let a = c.args in
    distinct_end a.ids.now l.i l.invariant (omega arith)
