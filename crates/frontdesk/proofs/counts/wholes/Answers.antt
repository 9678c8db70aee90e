-- `frontdesk::counts::wholes` is safe and ends. Its answer counts the array's start.
use Rattle.std.proofs.Common.{sym, length-take-le, rules}
use Rattle.frontdesk.proofs.counts.wholes.Goals as goal

pub returns-then-array-count : goal.returns-then-array-count
returns-then-array-count c = (search rules, sym (length-take-le _ _ (search rules)))

pub returns : goal.returns
returns c = (search rules, sym (length-take-le _ _ (search rules)))
