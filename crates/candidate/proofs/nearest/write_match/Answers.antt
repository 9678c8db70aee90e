-- A copy from the front of the part: the players at the places so far, and the part beyond.
use mathlib.Core.Path.{◌∙◌}
use mathlib.Core.List.{map}
use native.Mathlib.Omega.{arith}
use lib.ListN.{get_or, length-map}
use Rattle.seating.proofs.Laws.{overlaid_cut}
use Rattle.candidate.proofs.nearest.write_match.Goals as goal

pub returns : goal.returns
returns c =
    let row = map (λ p. get_or c.args.waiting.now p 0) c.args.places.now in
    c.loop-i.invariant ∙ overlaid_cut row c.args.part.now c.loop-i.i (omega (arith, length-map c.args.places.now (λ p. get_or c.args.waiting.now p 0)))
