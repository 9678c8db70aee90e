-- `frontdesk::numbers::fraction` is safe and ends. What is left over is below the scale, and the scale times a whole part of 10^9
-- is no more than 10^9.
use Rattle.std.proofs.Common.{◌/◌, ◌%◌, le_of_lt, mul-le-mul_right, mod-lt, arith}
use native.Mathlib.Nat.{mul-div-le}
use Rattle.frontdesk.proofs.numbers.fraction.Goals as goal

pub overflow_mul-result : goal.overflow_mul-result
overflow_mul-result c =
    let v = c.args.value in
    let s = c.args.scale in
    omega (
      arith,
      mul-le-mul_right {m = v % s} {n = s} (1000000000 / s) (le_of_lt (mod-lt v (omega arith))),
      mul-div-le 1000000000 s,
    )
