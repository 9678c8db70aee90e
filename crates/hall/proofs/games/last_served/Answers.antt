-- By its test.
use Rattle.hall.proofs.GameLaws.{none_last, served_last}
use Rattle.hall.proofs.games.last_served.Goals as goal

pub returns-then-served-eq255 : goal.returns-then-served-eq255
returns-then-served-eq255 c = none_last _ _ c.if-served-eq255.true

pub returns : goal.returns
returns c = served_last _ _ c.if-served-eq255.false
