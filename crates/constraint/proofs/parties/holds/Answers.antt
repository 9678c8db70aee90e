-- `parties::holds` meets its contract: the rest of those seated decides what all of them decide.
use Prim.Native.Nat.{ℕ}
use mathlib.Core.Path.{◌≡◌, refl, sym, ap, ◌∙◌}
use mathlib.Core.Bool.{not}
use native.Mathlib.Omega.{arith}
use lib.ListN.{length, take}
use lib.Seq.{length-take-le}
use Rattle.base.proofs.Arrays.{unmapped}
use Rattle.base.proofs.Loops.{seek_hit, seek_on, seek_end}
use Rattle.roster.specs.Roster.{of_parties}
use Rattle.matchmaker.specs.Quality.{match_of}
use Rattle.matchmaker.proofs.Rows.{seats_fit}
use Rattle.constraint.specs.Constraints.{party_together}
use Rattle.constraint.proofs.Meets.{parties_read}
use borrow.Author.Rules.{rules}
use Rattle.constraint.proofs.parties.holds.Goals as goal

pub slice_bounds-players-end : goal.slice_bounds-players-end
slice_bounds-players-end c =
    let m = c.args.proposed in
    let v : length m.a.players ≡ 8 = search (unmapped, rules) in
    let w : length m.b.players ≡ 8 = search (unmapped, rules) in
    let fit = seats_fit m.a.players m.b.players m.a.len m.b.len v w refl c.seats.ensures in
    let u : length c.seated_players-everyone.result ≡ 16 = search (unmapped, rules) in
    sym (length-take-le c.seats.result c.seated_players-everyone.result (omega arith))

pub returns-then-not-is_whole : goal.returns-then-not-is_whole
returns-then-not-is_whole c =
    let a = c.args in
    let r = of_parties a.ids.now a.parties.now in
    let l = c.loop-player in
    let all = c.seated_players-everyone.result in
    let players = take c.seats.result all in
    seek_hit _ _ _ players l.player-index 0 l.invariant (omega arith)
    (ap not (sym (c.is_whole.ensures ∙ ap (party_together r players) c.party_of-party.ensures) ∙ c.if-not-is_whole.true))
    ∙ parties_read r (match_of a.proposed) players (ap (λ (n : ℕ). take n all) c.seats.ensures ∙ c.seated_players-everyone.ensures.players_value)

pub loop-player-preserved : goal.loop-player-preserved
loop-player-preserved c =
    let a = c.args in
    let r = of_parties a.ids.now a.parties.now in
    let l = c.loop-player in
    let players = take c.seats.result c.seated_players-everyone.result in
    seek_on _ _ _ players l.player-index 0 l.invariant (omega arith)
    (ap not (sym (c.is_whole.ensures ∙ ap (party_together r players) c.party_of-party.ensures) ∙ c.if-not-is_whole.false))

pub returns : goal.returns
returns c =
    let a = c.args in
    let r = of_parties a.ids.now a.parties.now in
    let l = c.loop-player in
    let all = c.seated_players-everyone.result in
    let players = take c.seats.result all in
    seek_end _ _ _ players l.player-index l.invariant (omega arith)
    ∙ parties_read r (match_of a.proposed) players (ap (λ (n : ℕ). take n all) c.seats.ensures ∙ c.seated_players-everyone.ensures.players_value)
