-- One law for each test.
use native.Mathlib.Omega.{arith}
use Rattle.matchmaker.specs.Quality.{match_of}
use Rattle.seating.proofs.TurnLaws.{turn_full, turn_even, turn_ahead}
use Rattle.seating.proofs.turns.takes_a.Goals as goal

pub returns-then-sizes-m : goal.returns-then-sizes-m
returns-then-sizes-m c = turn_full c.args.sizes (match_of c.args.proposed) c.held-m.ensures (omega arith)

pub returns-then-m-n : goal.returns-then-m-n
returns-then-m-n c = turn_even c.args.sizes (match_of c.args.proposed) c.held-m.ensures c.held-n.ensures (omega arith) (omega arith)

pub returns : goal.returns
returns c = turn_ahead c.args.sizes (match_of c.args.proposed) c.held-m.ensures c.held-n.ensures (omega arith) (omega arith)
