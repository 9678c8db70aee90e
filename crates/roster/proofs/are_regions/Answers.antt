-- The chain asks of a code what the contract does.
use Rattle.std.proofs.Common.{rules}
use borrow.Author.Tests.{tests}
use Rattle.std.proofs.lemmas.Iterator.{YieldsList-from_slice}
use Rattle.base.proofs.Chains.{every_ran}
use Rattle.roster.specs.Roster.{is_region}
use Rattle.roster.proofs.are_regions.Goals as goal

pub returns : goal.returns
returns c = every_ran is_region _ c.all.ensures.ran (YieldsList-from_slice c.args.codes.now cc) (λ x b q k. search (rules, tests))
