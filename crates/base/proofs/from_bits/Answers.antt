-- Above the bits of infinity, the sign left out, are just the patterns of a NaN.
use mathlib.Core.Path.{◌≡◌, refl, sym, subst, ◌∙◌}
use mathlib.Core.Bool.{Bool, true, not}
use lib.Dec.{T}
use lib.Ieee.{binary64, is_nan, of_bits}
use lib.Ieee.Bits.{nan_bits_is, nan_bits_above}
use borrow.Author.Tests.{lt-ltb, le-ltb}
use Rattle.base.proofs.Nan.{only_nan, zero_by_zero}
use Rattle.base.proofs.from_bits.Goals as goal

pub returns-then-magnitude-gt9218868437227405312 : goal.returns-then-magnitude-gt9218868437227405312
returns-then-magnitude-gt9218868437227405312 c =
    let bits = c.args.bits in
    let e : is_nan (of_bits binary64 bits) ≡ true = sym (nan_bits_is binary64 bits) ∙ nan_bits_above binary64 bits ∙ lt-ltb _ _ c.if-magnitude-gt9218868437227405312.true in
    zero_by_zero ∙ sym (only_nan (of_bits binary64 bits) e)

pub float_from_bits-result : goal.float_from_bits-result
float_from_bits-result c = subst (λ (b : Bool). T (not b)) (sym (nan_bits_above binary64 c.args.bits ∙ le-ltb _ _ c.if-magnitude-gt9218868437227405312.false)) tt

pub returns : goal.returns
returns c = refl
