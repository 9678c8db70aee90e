-- What stands on the sheet is the row of the matches so far; each turn lends the rest of the sheet for one match more.
use Prim.Native.Nat.{◌+◌, ◌-◌, ◌*◌, ◌<◌}
use mathlib.Core.Path.{◌≡◌, ap, ◌∙◌}
use native.Mathlib.Omega.{arith}
use lib.ListN.{length, length-take, length-drop}
use Rattle.seating.specs.Steps.{overlaid}
use Rattle.seating.proofs.Laws.{length_overlaid}
use Rattle.candidate.proofs.Laws.{all_part, match_on, match_fits, match_counts}
use borrow.Author.Rules.{rules}
use Rattle.candidate.proofs.nearest.write_matches.Goals as goal

pub loop-init : goal.loop-init
unfolding overlaid
loop-init c = search rules

pub write_match-requires : goal.write_match-requires
write_match-requires c =
    let s = c.args in
    let l = c.loop in
    let f = match_fits s.count s.seats l.counter c.loop-test.true in
    let z : length s.places.now ≡ 64 = search rules in
    let k : l.at + s.seats - l.at ≡ s.seats = omega arith in
    rw k (simp (length-take, length-drop) (omega (arith, f)), all_part (λ p. p < 64) l.at s.seats (s.count * s.seats) s.places.now (omega (arith, f)) c.requires.all)

pub loop-preserved : goal.loop-preserved
loop-preserved c =
    let s = c.args in
    let l = c.loop in
    let f = match_fits s.count s.seats l.counter c.loop-test.true in
    let z : length s.places.now ≡ 64 = search rules in
    let k : l.at + s.seats - l.at ≡ s.seats = omega arith in
    let e = match_on s.waiting.now s.places.now l.at s.seats s.sheet.now l.sheet (omega (arith, f)) (omega (arith, f)) l.invariant.2 (rw k at c.write_match.ensures) in
    (match_counts s.seats l.counter l.at l.invariant.0, ap length e ∙ length_overlaid _ s.sheet.now, e)
