-- The roles are made anew, the rest crosses as it is.
use Rattle.capi.proofs.rules.constraints_of.Goals as goal

pub returns : goal.returns
returns c = let a = c.args.c in λ j. record { brought = a.brought; sizes = a.sizes; roles = c.roles_of.ensures j; regions = a.regions }
