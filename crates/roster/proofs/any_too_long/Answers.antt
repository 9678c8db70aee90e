-- The chain asks of a length what the contract does.
use Rattle.std.proofs.Common.{rules}
use borrow.Author.Tests.{tests}
use Rattle.std.proofs.lemmas.Iterator.{YieldsList-from_slice}
use Rattle.base.proofs.Chains.{any_ran}
use Rattle.roster.specs.Roster.{too_long}
use Rattle.roster.proofs.any_too_long.Goals as goal

pub returns : goal.returns
returns c = any_ran too_long _ c.any.ensures.ran (YieldsList-from_slice c.args.lengths.now cc) (λ x b q k. search (rules, tests))
