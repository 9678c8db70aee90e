-- `pareto::any_below` meets its contract: the chain asks of each pair what the contract does.
use Rattle.std.proofs.Common.{◌∙◌, rules}
use borrow.Author.Tests.{tests}
use lib.Ieee.{Float, lt}
use Rattle.std.proofs.lemmas.Iterator.{YieldsList-from_slice, YieldsList-from_zip}
use Rattle.base.proofs.Chains.{any_ran}
use Rattle.objective.proofs.Laws.{below_zip}
use Rattle.objective.proofs.pareto.any_below.Goals as goal

pub returns : goal.returns
returns c =
    any_ran (λ (p : Float × Float). lt p.0 p.1) c.any.new.self c.any.ensures.ran (YieldsList-from_zip (YieldsList-from_slice c.args.xs cc) (YieldsList-from_slice c.args.ys cc)) (λ x b q k. search (rules, tests))
    ∙ below_zip c.args.xs c.args.ys
