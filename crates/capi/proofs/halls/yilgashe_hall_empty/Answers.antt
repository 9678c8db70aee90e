-- Nothing is in the first 0 places.
use mathlib.Core.Path.{refl}
use Rattle.hall.specs.Hall.{paired}
use Rattle.capi.proofs.halls.yilgashe_hall_empty.Goals as goal

pub returns : goal.returns
unfolding paired
returns c = refl
