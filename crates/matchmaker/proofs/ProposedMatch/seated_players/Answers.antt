-- `ProposedMatch::seated_players` meets its contract: team A at the front, team B behind it.
use Rattle.std.proofs.Common.{◌≡◌, length, take, replicate, ◌∙◌, arith, rules}
use Rattle.base.specs.Sheets.{laid}
use Rattle.base.proofs.Arrays.{unmapped, held_fits}
use Rattle.matchmaker.proofs.Rows.{seated_both}
use Rattle.matchmaker.proofs.ProposedMatch.seated_players.Goals as goal

pub seat-requires : goal.seat-requires
seat-requires c =
    let t = c.args.self.a in
    let w : length t.players ≡ 8 = search (unmapped, rules) in
    let h = held_fits t.len t.players c.held.ensures in
    omega arith

pub returns : goal.returns
returns c =
    let m = c.args.self in
    let a = take m.a.len m.a.players in
    let b = take m.b.len m.b.players in
    let f = c.seat-first.ensures in
    let s = c.seat.ensures in record { players_value = seated_both a b (replicate 16 0) c.seat-first.result c.seat.result c.held.ensures f.0 s.0; players_value_2 = s.1 ∙ (λ j. laid (f.1 j) (c.held.ensures j) m.b.players) }
