-- `Matches::hand_out` meets its contract: what its four callees say, put together.
use Rattle.seating.proofs.Matches.hand_out.Goals as goal

pub returns : goal.returns
returns c =
    let h = c.held-n.ensures in
    record {
      count = h;
      seated = c.write_players.ensures;
      rated = rw (h, c.rated-rated.ensures) at c.write_qualities.ensures;
    }
