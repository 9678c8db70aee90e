-- The library's `any`.
use Rattle.std.proofs.Common.{rules}
use borrow.Author.Tests.{tests}
use Rattle.std.proofs.lemmas.Iterator.{YieldsList-from_slice}
use Rattle.base.proofs.Chains.{any_ran}
use Rattle.queue.specs.Queue.{joined_over}
use Rattle.queue.proofs.any_joined_over.Goals as goal

pub returns : goal.returns
returns c = any_ran joined_over _ c.any.ensures.ran (YieldsList-from_slice c.args.entries.now cc) (λ x b q k. search (rules, tests))
