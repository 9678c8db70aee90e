-- `MatchObjective::score_by_rows` meets its contract, by those of the four it calls.
use mathlib.Core.Path.{◌≡◌, refl, sym}
use native.Mathlib.Omega.{arith}
use lib.ListN.{length}
use lib.Seq.{length-take-le}
use Rattle.base.proofs.Arrays.{unmapped}
use Rattle.matchmaker.proofs.Rows.{seats_fit}
use borrow.Author.Rules.{rules}
use Rattle.objective.proofs.score.MatchObjective.score_by_rows.Goals as goal

pub slice_bounds-rows-end : goal.slice_bounds-rows-end
slice_bounds-rows-end c =
    let m = c.args.proposed in
    let v : length m.a.players ≡ 8 = search (unmapped, rules) in
    let w : length m.b.players ≡ 8 = search (unmapped, rules) in
    let u : length c.args.rows ≡ 16 = search (unmapped, rules) in
    let fit = seats_fit m.a.players m.b.players m.a.len m.b.len v w refl c.seats-n.ensures in
    omega arith

pub slice_bounds-add_rows-end : goal.slice_bounds-add_rows-end
slice_bounds-add_rows-end c =
    let m = c.args.proposed in
    let v : length m.a.players ≡ 8 = search (unmapped, rules) in
    let w : length m.b.players ≡ 8 = search (unmapped, rules) in
    let u : length c.args.rows ≡ 16 = search (unmapped, rules) in
    let fit = seats_fit m.a.players m.b.players m.a.len m.b.len v w refl c.seats-n.ensures in
    sym (length-take-le c.seats-n.result c.args.rows (omega arith))

pub returns : goal.returns
returns c =
    rw (c.score_from.ensures, c.quality_by_rows.ensures, c.add_rows-sum.ensures, c.seats-n.ensures)
