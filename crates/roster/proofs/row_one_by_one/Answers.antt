-- The chain asks of an id what the contract does.
use Rattle.std.proofs.Common.{◌∙◌, rules}
use borrow.Author.Tests.{tests}
use lib.Dec.{eqb}
use Rattle.std.proofs.lemmas.Iterator.{YieldsList-from_slice}
use Rattle.base.proofs.Chains.{place_ran}
use Rattle.roster.proofs.row_one_by_one.Goals as goal

pub returns : goal.returns
returns c = c.unwrap_or.ensures ∙ place_ran (λ id. eqb id c.args.player) _ c.position.ensures.ran (YieldsList-from_slice c.args.ids.now cc) (λ x b q k. search (rules, tests))
