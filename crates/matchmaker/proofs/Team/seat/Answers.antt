-- `Team::seat` meets its contract: all places of the team stand behind the first of the array, so those that it holds do.
use Rattle.std.proofs.Common.{◌≡◌, ◌+◌, ◌-◌, length, refl, arith, rules}
use Rattle.base.proofs.Arrays.{unmapped}
use Rattle.base.proofs.Sheets.{laid_part}
use Rattle.matchmaker.proofs.Rows.{seat_front}
use Rattle.matchmaker.proofs.Team.seat.Goals as goal

pub returns : goal.returns
returns c =
    let a = c.args in
    let w : length a.self.players ≡ 8 = search (unmapped, rules) in
    let v : length a.players ≡ 16 = search (unmapped, rules) in
    let e : a.at + 8 - a.at ≡ length a.self.players = omega arith in
    rw (c.copy_from_slice.ensures.after, e, laid_part a.players a.at a.self.players) (seat_front a.players a.self.players a.at a.self.len (omega arith), refl)
