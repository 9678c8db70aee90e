-- The last row that has the player is the only one.
use mathlib.Core.Path.{ap, ◌∙◌}
use native.Mathlib.Omega.{arith}
use Prim.Native.Nat.{ℕ}
use lib.ListN.{length}
use Rattle.roster.specs.Steps.{last_in}
use Rattle.roster.proofs.Buckets.{walk_noted, walk_finds, row_none, row_some}
use Rattle.roster.proofs.table.row_in.Goals as goal

pub last_of-k-requires : goal.last_of-k-requires
last_of-k-requires c =
    let a = c.args in
    let n = c.requires.noted in
    let b = c.bucket-at.ensures in
    let e = c.wide.ensures ∙ n.lasts _ b.1 ∙ ap (λ (x : ℕ). last_in x a.ids.now (length a.ids.now)) b.0 in
    let told = walk_noted a.ids.now a.player (length a.ids.now) n (omega arith) e (omega arith) (omega arith) in
    record { from_in_bounds = told.0; before_len = told.1.0; from_value = told.1.1 }

pub returns-then-k-eq0 : goal.returns-then-k-eq0
returns-then-k-eq0 c =
    let a = c.args in
    let n = c.requires.noted in
    let b = c.bucket-at.ensures in
    let e = c.wide.ensures ∙ n.lasts _ b.1 ∙ ap (λ (x : ℕ). last_in x a.ids.now (length a.ids.now)) b.0 in
    let k = walk_finds a.ids.now a.player (length a.ids.now) e c.last_of-k.ensures in
    row_none a.player a.ids.now (omega arith)

pub returns : goal.returns
returns c =
    let a = c.args in
    let n = c.requires.noted in
    let b = c.bucket-at.ensures in
    let e = c.wide.ensures ∙ n.lasts _ b.1 ∙ ap (λ (x : ℕ). last_in x a.ids.now (length a.ids.now)) b.0 in
    let k = walk_finds a.ids.now a.player (length a.ids.now) e c.last_of-k.ensures in
    row_some a.player a.ids.now c.requires.ids_value (omega arith)
