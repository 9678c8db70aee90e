-- A search: the rest gives what the whole gives.
use mathlib.Core.Path.{◌≡◌, refl, ap, ◌∙◌}
use Prim.Native.Nat.{ℕ}
use borrow.Author.Tests.{eq-eqb, ne_eqb}
use lib.ListN.{length, take}
use Rattle.base.specs.Lists.{member}
use Rattle.base.proofs.Arrays.{take_held}
use Rattle.base.proofs.Loops.{seek_hit, seek_on, seek_end}
use Rattle.hall.proofs.waiting.is_seated.Goals as goal

pub returns-then-seated-player : goal.returns-then-seated-player
returns-then-seated-player c =
    let s = c.args in
    let l = c.loop-seated in
    let same : take c.at_most.result s.players.now ≡ take s.seats s.players.now = ap (λ (m : ℕ). take m s.players.now) c.at_most.ensures ∙ take_held s.players.now s.seats (length s.players.now) refl in
    seek_hit _ _ _ (take c.at_most.result s.players.now) l.seated-index _ l.invariant c.loop-seated-test.true (eq-eqb _ _ c.if-seated-player.true) ∙ ap (member s.player) same

pub loop-seated-preserved : goal.loop-seated-preserved
loop-seated-preserved c =
    let l = c.loop-seated in
    seek_on _ _ _ (take c.at_most.result c.args.players.now) l.seated-index _ l.invariant c.loop-seated-test.true (ne_eqb _ _ c.if-seated-player.false)

pub returns : goal.returns
returns c =
    let s = c.args in
    let l = c.loop-seated in
    let same : take c.at_most.result s.players.now ≡ take s.seats s.players.now = ap (λ (m : ℕ). take m s.players.now) c.at_most.ensures ∙ take_held s.players.now s.seats (length s.players.now) refl in
    seek_end _ _ _ (take c.at_most.result s.players.now) l.seated-index l.invariant c.loop-seated-test.false ∙ ap (member s.player) same
