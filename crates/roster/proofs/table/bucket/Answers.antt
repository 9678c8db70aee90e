-- The remainder by 1,024 is one of so many.
use mathlib.Core.Path.{refl}
use native.Mathlib.Omega.{arith}
use Rattle.roster.specs.Steps.{bucket_of}
use Rattle.roster.proofs.table.bucket.Goals as goal

pub returns : goal.returns
unfolding bucket_of
returns c = (refl, omega arith)
