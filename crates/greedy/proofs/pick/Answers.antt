-- One law for a pick of A's, and one for any other.
use mathlib.Core.Path.{ap, ◌∙◌}
use lib.ListN.{get_or}
use Rattle.matchmaker.specs.Quality.{match_of}
use Rattle.seating.specs.declared.TeamComposition.{TeamComposition}
use Rattle.seating.specs.Turns.{grown}
use Rattle.seating.proofs.TurnLaws.{held_whole}
use Rattle.greedy.specs.Steps.{fill_of}
use Rattle.greedy.proofs.Laws.{picks_a, picks_b}
use Rattle.greedy.proofs.pick.Goals as goal

pub returns-then-takes_a : goal.returns-then-takes_a
returns-then-takes_a c =
    let s = c.args in
    let whole = ap (λ (k : TeamComposition). grown k (match_of s.filling.teams) (get_or s.players.now s.at 0)) (held_whole s.sizes c.requires.sizes_bound.0 c.requires.sizes_bound.1) in
    record { result_after = picks_a s.sizes s.players.now s.rostered.now (fill_of s.used.now s.filling) s.at c.mark.ensures.used_after (c.seat_next-teams.ensures ∙ whole) c.takes_a.ensures c.if-takes_a.true c.held.ensures c.average.ensures; free_after = c.mark.ensures.free_after }

pub returns : goal.returns
returns c =
    let s = c.args in
    let whole = ap (λ (k : TeamComposition). grown k (match_of s.filling.teams) (get_or s.players.now s.at 0)) (held_whole s.sizes c.requires.sizes_bound.0 c.requires.sizes_bound.1) in
    record { result_after = picks_b s.sizes s.players.now s.rostered.now (fill_of s.used.now s.filling) s.at c.mark.ensures.used_after (c.seat_next-teams.ensures ∙ whole) c.takes_a.ensures c.if-takes_a.false; free_after = c.mark.ensures.free_after }
