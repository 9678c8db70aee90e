-- `Matches::write_players` meets its contract: what is written and the rest of the matches behind it make the whole sheet.
use mathlib.Core.Path.{ap, ◌∙◌}
use mathlib.Core.List.{List, map}
use native.Mathlib.Omega.{arith}
use Rattle.base.proofs.Arrays.{all_held}
use Rattle.matchmaker.specs.declared.ProposedMatch.{ProposedMatch}
use Rattle.matchmaker.specs.Quality.{match_of}
use Rattle.seating.specs.Seating.{seats}
use Rattle.seating.specs.Steps.{overlaid}
use Rattle.seating.proofs.Laws.{matches_held, lent, length_lent, seat_on, seat_end}
use Rattle.seating.proofs.Matches.write_players.Goals as goal

pub loop-next-preserved : goal.loop-next-preserved
loop-next-preserved c =
    let l = c.loop-next in
    let v = c.seats.ensures in
    let e = lent l.sheet l.at _ c.write_match.ensures in
    let f = length_lent _ l.sheet l.at l.invariant.0 e in
    let k = c.at_most-at.ensures in
    (omega (arith, f, k), seat_on _ l.next-index l.sheet l.at l.invariant.1 _ c.at_most-at.result (omega arith) l.invariant.0 e (omega (arith, f, k, v)))

pub returns : goal.returns
returns c =
    let m = c.args.self in
    let l = c.loop-next in
    seat_end _ l.next-index l.sheet l.at l.invariant.1 (omega arith)
    ∙ ap (λ (t : List ProposedMatch). overlaid (seats (map match_of t)) c.args.sheet.now) (all_held m.len m.items (matches_held m c.held.ensures))
