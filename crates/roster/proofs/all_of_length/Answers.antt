-- The chain asks of a length what the contract does.
use lib.Dec.{eqb}
use Rattle.std.proofs.Common.{rules}
use borrow.Author.Tests.{tests}
use Rattle.std.proofs.lemmas.Iterator.{YieldsList-from_slice}
use Rattle.base.proofs.Chains.{every_ran}
use Rattle.roster.proofs.all_of_length.Goals as goal

pub returns : goal.returns
returns c = every_ran (λ n. eqb n c.args.rows) _ c.all.ensures.ran (YieldsList-from_slice c.args.lengths.now cc) (λ x b q k. search (rules, tests))
