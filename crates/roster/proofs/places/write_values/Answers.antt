-- A copy from the front: what is found of so many players, and the sheet beyond.
use Rattle.std.specs.Prelude.{Option, Float}
use Prim.Native.Nat.{ℕ}
use mathlib.Core.Path.{ap, ◌∙◌}
use native.Mathlib.Omega.{arith}
use Rattle.base.proofs.Sheets.{written_on, written_end}
use Rattle.std.specs.Prelude.{unwrap_or}
use Rattle.base.specs.Floats as Floats
use Rattle.roster.specs.Roster.{observe}
use Rattle.roster.proofs.places.write_values.Goals as goal

pub loop-i-preserved : goal.loop-i-preserved
loop-i-preserved c =
    let a = c.args in
    let l = c.loop-i in
    rw l.invariant (written_on (λ (p : ℕ). unwrap_or (observe a.ids.now a.column.now p) Floats.zero) a.players.now a.values.now l.i 0 (omega arith) (omega arith) (c.unwrap_or.ensures ∙ ap (λ (o : Option Float). unwrap_or o Floats.zero) c.observation.ensures))

pub returns : goal.returns
returns c =
    let a = c.args in
    let l = c.loop-i in
    l.invariant ∙ written_end (λ (p : ℕ). unwrap_or (observe a.ids.now a.column.now p) Floats.zero) a.players.now a.values.now l.i (omega arith)
