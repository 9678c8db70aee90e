-- `turns::seat_next` meets its contract. One law for each team that takes the player, and one for neither.
use Prim.Native.Nat.{ℕ, ◌≤◌, ◌<◌, min}
use mathlib.Core.Path.{ap, ◌∙◌, subst}
use native.Mathlib.Omega.{arith}
use Rattle.matchmaker.specs.Quality.{match_of}
use Rattle.seating.specs.declared.TeamComposition.{TeamComposition}
use Rattle.seating.specs.Steps.{held_sizes}
use Rattle.seating.specs.Turns.{takes_a}
use Rattle.seating.proofs.TurnLaws.{turn_short, grown_a, grown_b, grown_none, joined_held}
use Rattle.seating.proofs.turns.seat_next.Goals as goal

pub returns-then-takes_a : goal.returns-then-takes_a
returns-then-takes_a c =
    let s = c.args in
    let m = match_of s.proposed in
    let turn = c.takes_a.ensures ∙ ap (λ (k : TeamComposition). takes_a k m) c.held-held.ensures in
    let short = turn_short (held_sizes s.sizes) m turn c.if-takes_a.true in
    grown_a (held_sizes s.sizes) m turn s.player c.if-takes_a.true (joined_held s.sizes.a m.a s.player short c.joined.ensures)

pub returns-then-held : goal.returns-then-held
returns-then-held c =
    let s = c.args in
    let m = match_of s.proposed in
    let held = c.held-held.ensures in
    let turn = c.takes_a.ensures ∙ ap (λ (k : TeamComposition). takes_a k m) held in
    let b = c.held in
    let short : b.result < min s.sizes.b 8 = subst (λ (n : ℕ). b.result < n) (ap (λ (k : TeamComposition). k.b) held) c.if-held.true in
    grown_b (held_sizes s.sizes) m turn s.player c.if-takes_a.false b.ensures short
    (joined_held s.sizes.b m.b s.player (omega (arith, b.ensures)) c.joined-then-held.ensures)

pub returns : goal.returns
returns c =
    let s = c.args in
    let m = match_of s.proposed in
    let held = c.held-held.ensures in
    let turn = c.takes_a.ensures ∙ ap (λ (k : TeamComposition). takes_a k m) held in
    let b = c.held in
    grown_none (held_sizes s.sizes) m turn s.player c.if-takes_a.false b.ensures (subst (λ (n : ℕ). n ≤ b.result) (ap (λ (k : TeamComposition). k.b) held) c.if-held.false)
