-- The rows gone by are in the table and differ.
use Prim.Native.Nat.{◌+◌, ◌*◌, ◌/◌}
use mathlib.Core.Path.{◌≡◌, refl, sym, ◌∙◌}
use native.Mathlib.Omega.{arith}
use lib.ListN.{length}
use Rattle.base.specs.Lists.{distinct}
use Rattle.base.proofs.Cases.{never}
use Rattle.roster.proofs.Buckets.{differ_no_more}
use Rattle.roster.proofs.table.note_all.Goals as goal

pub loop-turn-init : goal.loop-turn-init
unfolding distinct
loop-turn-init c = (refl, c.requires.noted)

pub note_four-requires : goal.note_four-requires
note_four-requires c =
    let l = c.loop-turn in
    record { row_in_bounds = (omega arith, omega arith); noted = l.invariant.1; ids_value = l.invariant.0 }

pub returns-then-not-note_four : goal.returns-then-not-note_four
returns-then-not-note_four c =
    record { value = differ_no_more c.args.ids.now (4 * c.loop-turn.turn + 4) (sym c.note_four.ensures.value ∙ c.if-not-note_four.true); noted_2 = λ e. never cc }

pub loop-turn-preserved : goal.loop-turn-preserved
loop-turn-preserved c =
    let m = c.note_four.ensures in
    let e : 4 * c.loop-turn.turn + 4 ≡ 4 * (c.loop-turn.turn + 1) = omega arith in
    rw (← e) (sym m.value ∙ c.if-not-note_four.false, m.noted_2)

pub note_from-requires : goal.note_from-requires
note_from-requires c =
    let l = c.loop-turn in
    let e : l.turn ≡ length c.args.ids.now / 4 = omega arith in
    rw (← e) (record { from_in_bounds = (omega arith, omega arith); noted = l.invariant.1; ids_value = l.invariant.0 })

pub returns : goal.returns
returns c = c.note_from.ensures
