-- `parties::is_party_seated` meets its contract: the rest of the rows decides what all of them decide.
use mathlib.Core.Path.{◌≡◌}
use lib.ListN.{drop}
use Rattle.constraint.specs.Constraints.{party_seated}
use Rattle.constraint.proofs.parties.is_party_seated.Given as goal

abbrev pub invariant-loop-row : goal.invariant-loop-row
invariant-loop-row l = party_seated l.ids l.parties l.players l.party ≡ party_seated (drop l.row l.ids) (drop l.row l.parties) l.players l.party
