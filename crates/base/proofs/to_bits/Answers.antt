-- A NaN is unequal to itself, and its pattern is the one that is written.
use mathlib.Core.Path.{refl, sym, ap, subst, ◌∙◌}
use mathlib.Core.Bool.{Bool, not}
use lib.Dec.{T}
use lib.Ieee.{binary64, to_bits}
use Rattle.base.proofs.Nan.{unlike_itself, only_nan}
use Rattle.base.proofs.to_bits.Goals as goal

pub returns-then-x : goal.returns-then-x
unfolding to_bits
returns-then-x c = sym (ap (to_bits binary64) (only_nan _ (sym (unlike_itself _) ∙ c.if-x.true)))

pub float_to_bits-result : goal.float_to_bits-result
float_to_bits-result c = subst (λ (b : Bool). T (not b)) (sym (sym (unlike_itself _) ∙ c.if-x.false)) tt

pub returns : goal.returns
returns c = refl
