-- A copy from the front: what is found of so many players, and the sheet beyond.
use Rattle.std.specs.Prelude.{Option, Float}
use Prim.Native.Nat.{ℕ}
use mathlib.Core.Path.{ap, ◌∙◌}
use native.Mathlib.Omega.{arith}
use Rattle.base.proofs.Sheets.{written_on, written_end}
use Rattle.std.specs.Prelude.{is_some}
use Rattle.roster.specs.Roster.{observe}
use Rattle.roster.proofs.places.write_known.Goals as goal

pub loop-i-preserved : goal.loop-i-preserved
loop-i-preserved c =
    let a = c.args in
    let l = c.loop-i in
    rw l.invariant (written_on (λ (p : ℕ). is_some (observe a.ids.now a.column.now p)) a.players.now a.known.now l.i 0 (omega arith) (omega arith) (c.is_some.ensures ∙ ap (λ (o : Option Float). is_some o) c.observation.ensures))

pub returns : goal.returns
returns c =
    let a = c.args in
    let l = c.loop-i in
    l.invariant ∙ written_end (λ (p : ℕ). is_some (observe a.ids.now a.column.now p)) a.players.now a.known.now l.i (omega arith)
