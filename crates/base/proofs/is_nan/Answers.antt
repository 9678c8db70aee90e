-- A float is unequal to itself just where it is NaN.
use Rattle.base.proofs.Nan.{unlike_itself}
use Rattle.base.proofs.is_nan.Goals as goal

pub returns : goal.returns
returns c = unlike_itself c.args.x
