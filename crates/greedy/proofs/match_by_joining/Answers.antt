-- The columns in order of joining, searched there.
use lib.Ieee.{nan}
use Prim.Native.Nat.{◌≤◌}
use mathlib.Core.Path.{◌≡◌}
use native.Mathlib.Omega.{arith}
use lib.ListN.{length, take}
use lib.Seq.{length-take-le}
use Rattle.base.proofs.All.{all_below}
use Rattle.roster.specs.Roster.{of_ratings}
use Rattle.greedy.proofs.Papers.{out_alike}
use Rattle.greedy.proofs.Columns.{joining_plain}
use Rattle.greedy.proofs.Rows.{places_fit, stands_fit}
use borrow.Author.Rules.{rules}
use Rattle.greedy.proofs.match_by_joining.Goals as goal

pub arrange-requires : goal.arrange-requires
arrange-requires c =
    let n = c.args.n in
    let joined = c.args.joined in
    let good = c.well_formed in
    let l : length joined ≡ 64 = search rules in
    let order = c.by_time-order in
    let lp : length order.result.places ≡ 64 = search rules in
    let ls : length order.result.stands ≡ 64 = search rules in
    let many : length (take n joined) ≡ n = length-take-le n joined (omega (arith, c.requires.n_bound.0, l)) in
    let w : length (take n order.result.places) ≡ n = length-take-le n order.result.places (omega (arith, c.requires.n_bound.0, lp)) in
    (omega arith, (omega (arith, w, c.requires.n_bound.0), all_below n 64 c.requires.n_bound.0 (take n order.result.places) (places_fit n joined order.result.places order.result.stands many order.ensures.places_value order.ensures.all)))

pub arrange-requires-2 : goal.arrange-requires-2
arrange-requires-2 c =
    let n = c.args.n in
    let joined = c.args.joined in
    let good = c.well_formed in
    let l : length joined ≡ 64 = search rules in
    let order = c.by_time-order in
    let lp : length order.result.places ≡ 64 = search rules in
    let ls : length order.result.stands ≡ 64 = search rules in
    let many : length (take n joined) ≡ n = length-take-le n joined (omega (arith, c.requires.n_bound.0, l)) in
    let w : length (take n order.result.places) ≡ n = length-take-le n order.result.places (omega (arith, c.requires.n_bound.0, lp)) in
    (omega arith, (omega (arith, w, c.requires.n_bound.0), all_below n 64 c.requires.n_bound.0 (take n order.result.places) (places_fit n joined order.result.places order.result.stands many order.ensures.places_value order.ensures.all)))

pub arrange-requires-3 : goal.arrange-requires-3
arrange-requires-3 c =
    let n = c.args.n in
    let joined = c.args.joined in
    let good = c.well_formed in
    let l : length joined ≡ 64 = search rules in
    let order = c.by_time-order in
    let lp : length order.result.places ≡ 64 = search rules in
    let ls : length order.result.stands ≡ 64 = search rules in
    let many : length (take n joined) ≡ n = length-take-le n joined (omega (arith, c.requires.n_bound.0, l)) in
    let w : length (take n order.result.places) ≡ n = length-take-le n order.result.places (omega (arith, c.requires.n_bound.0, lp)) in
    (omega arith, (omega (arith, w, c.requires.n_bound.0), all_below n 64 c.requires.n_bound.0 (take n order.result.places) (places_fit n joined order.result.places order.result.stands many order.ensures.places_value order.ensures.all)))

pub match_all-requires : goal.match_all-requires
match_all-requires c =
    let n = c.args.n in
    let joined = c.args.joined in
    let good = c.well_formed in
    let l : length joined ≡ 64 = search rules in
    let order = c.by_time-order in
    let lp : length order.result.places ≡ 64 = search rules in
    let ls : length order.result.stands ≡ 64 = search rules in
    let many : length (take n joined) ≡ n = length-take-le n joined (omega (arith, c.requires.n_bound.0, l)) in
    let w : length (take n order.result.places) ≡ n = length-take-le n order.result.places (omega (arith, c.requires.n_bound.0, lp)) in
    let v : length (take n c.arrange.new.out) ≡ n = length-take-le n c.arrange.new.out (search rules) in
    record { sizes_bound = c.requires.sizes_bound; turns_bound = rw v (c.requires.n_bound.0, stands_fit n joined order.result.places order.result.stands many order.ensures.places_value order.ensures.all); in_bounds = rw v c.requires.n_bound.1 }

pub returns : goal.returns
returns c =
    let n = c.args.n in
    let joined = c.args.joined in
    let good = c.well_formed in
    let l : length joined ≡ 64 = search rules in
    let order = c.by_time-order in
    let lp : length order.result.places ≡ 64 = search rules in
    let ls : length order.result.stands ≡ 64 = search rules in
    let many : length (take n joined) ≡ n = length-take-le n joined (omega (arith, c.requires.n_bound.0, l)) in
    let w : length (take n order.result.places) ≡ n = length-take-le n order.result.places (omega (arith, c.requires.n_bound.0, lp)) in
    let a = c.args in
    let fits : n ≤ 64 = c.requires.n_bound.0 in
    let room : n ≤ length order.result.places = omega (arith, fits, lp) in
    let space : n ≤ length order.result.stands = omega (arith, fits, ls) in
    let v : length (take n c.arrange.new.out) ≡ n = length-take-le n c.arrange.new.out (search rules) in
    λ queue from.
    out_alike
    (joining_plain a.sizes (of_ratings a.ids.now a.ratings.now) queue n a.players.now a.entered.now a.rostered.now joined from fits
    order.result.places order.result.stands _ _ _ room space order.ensures.places_value order.ensures.stands_value order.ensures.all
    (rw w at (c.arrange.ensures 0)) (rw w at (c.arrange-2.ensures nan)) (rw w at (c.arrange-3.ensures nan)))
    (rw v at c.match_all.ensures)
