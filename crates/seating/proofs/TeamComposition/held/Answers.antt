-- `TeamComposition::held` meets its contract: each size is 8 at most.
use Rattle.seating.proofs.TeamComposition.held.Goals as goal

pub returns : goal.returns
returns c = λ j. record { a = c.at_most.ensures j; b = c.at_most-2.ensures j }
