-- An array filled: what stands at the places so far.
use Rattle.std.proofs.Common.{◌≡◌, ◌<◌, length, get_or, ap, ◌∙◌, arith, rules}
use mathlib.Core.List.{map}
use lib.Seq.{take-length}
use Rattle.std.proofs.lemmas.List.{get_or_default}
use Rattle.base.proofs.All.{all_at}
use Rattle.base.proofs.Arrays.{fill_on}
use Rattle.greedy.proofs.arrange.Goals as goal

pub loop-k-preserved : goal.loop-k-preserved
loop-k-preserved g c nothing =
    let xs = c.args.column.now in
    let ps = c.args.places.now in
    let l = c.loop-k in
    let below = all_at (λ p. p < 64) ps l.k 0 c.requires.1 (omega arith) in
    let room : l.k < length l.out = search rules in
    let wide : length xs ≡ 64 = search rules in
    fill_on (λ p. get_or xs p nothing) ps l.out l.k 0 (omega arith) room (l.invariant nothing) (get_or_default xs (get_or ps l.k 0) c.index-column-place.result nothing (omega arith))

pub returns : goal.returns
returns g c nothing =
    let ps = c.args.places.now in
    let xs = c.args.column.now in
    let l = c.loop-k in
    let e : l.k ≡ length ps = omega arith in
    rw e at l.invariant nothing ∙ ap (map (λ p. get_or xs p nothing)) (take-length ps)
