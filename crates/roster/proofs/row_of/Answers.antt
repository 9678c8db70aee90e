-- The rows gone by and the row in the rest make the row, whichever of the four decides.
use Prim.Native.Nat.{◌+◌, ◌*◌, ◌/◌, ◌≤◌}
use mathlib.Core.Path.{◌≡◌, sym, ap, ◌∙◌}
use native.Mathlib.Omega.{arith}
use lib.ListN.{length, drop, length-drop}
use Rattle.base.proofs.Loops.{place_fits}
use Rattle.base.proofs.Sheets.{rest}
use Rattle.roster.specs.Roster.{row_of}
use Rattle.roster.proofs.Laws.{row_hit, row_on}
use Rattle.roster.proofs.row_of.Goals as goal

pub returns-then-ids-first : goal.returns-then-ids-first
returns-then-ids-first c =
    let l = c.loop-turn in
    let a = c.args in
    row_hit a.player a.ids.now (4 * l.turn) l.invariant (omega arith) c.if-ids-first.true

pub returns-then-ids-second : goal.returns-then-ids-second
returns-then-ids-second c =
    let l = c.loop-turn in
    let a = c.args in
    let i = 4 * l.turn in
    let v1 = row_on a.player a.ids.now i l.invariant (omega arith) c.if-ids-first.false in
    row_hit a.player a.ids.now (i + 1) v1 (omega arith) c.if-ids-second.true

pub returns-then-ids-third : goal.returns-then-ids-third
returns-then-ids-third c =
    let l = c.loop-turn in
    let a = c.args in
    let i = 4 * l.turn in
    let v1 = row_on a.player a.ids.now i l.invariant (omega arith) c.if-ids-first.false in
    let v2 = row_on a.player a.ids.now (i + 1) v1 (omega arith) c.if-ids-second.false in
    row_hit a.player a.ids.now (i + 1 + 1) v2 (omega arith) c.if-ids-third.true

pub returns-then-ids-fourth : goal.returns-then-ids-fourth
returns-then-ids-fourth c =
    let l = c.loop-turn in
    let a = c.args in
    let i = 4 * l.turn in
    let v1 = row_on a.player a.ids.now i l.invariant (omega arith) c.if-ids-first.false in
    let v2 = row_on a.player a.ids.now (i + 1) v1 (omega arith) c.if-ids-second.false in
    let v3 = row_on a.player a.ids.now (i + 1 + 1) v2 (omega arith) c.if-ids-third.false in
    row_hit a.player a.ids.now (i + 1 + 1 + 1) v3 (omega arith) c.if-ids-fourth.true

pub loop-turn-preserved : goal.loop-turn-preserved
loop-turn-preserved c =
    let l = c.loop-turn in
    let a = c.args in
    let i = 4 * l.turn in
    let v1 = row_on a.player a.ids.now i l.invariant (omega arith) c.if-ids-first.false in
    let v2 = row_on a.player a.ids.now (i + 1) v1 (omega arith) c.if-ids-second.false in
    let v3 = row_on a.player a.ids.now (i + 1 + 1) v2 (omega arith) c.if-ids-third.false in
    let e : i + 1 + 1 + 1 + 1 ≡ 4 * (l.turn + 1) = omega arith in
    rw (← e) (row_on a.player a.ids.now (i + 1 + 1 + 1) v3 (omega arith) c.if-ids-fourth.false)

pub overflow_add-result : goal.overflow_add-result
overflow_add-result c =
    let ids = c.args.ids.now in
    let at = 4 * (length ids / 4) in
    let left = drop at ids in
    let r = c.row_one_by_one.ensures ∙ ap (row_of c.args.player) (rest ids at) in
    let fits : row_of c.args.player left ≤ length left = place_fits _ left in
    omega (arith, length-drop at ids)

pub returns : goal.returns
returns c =
    let l = c.loop-turn in
    let ids = c.args.ids.now in
    let e : l.turn ≡ length ids / 4 = omega arith in
    let r = c.row_one_by_one.ensures ∙ ap (row_of c.args.player) (rest ids (4 * (length ids / 4))) in
    rw r (sym (rw e at l.invariant))
