-- The seconds of a wait are rounded once: up to 2^53 ns the conversion is exact, so only the division rounds.
use Rattle.std.proofs.Common.{◌≡◌, ℕ, ◌*◌, ◌<◌, ◌≤◌, true, false, pos, ap, ◌∙◌, true≢false, mul_assoc, mul_comm, arith}
use lib.Ieee.{Float, nan, inf, fin, binary64, up, down, div, round, of_int, of_bits}
use lib.Ieee.Fits.{down_pos}
use lib.Ieee.Exact.{HasValue}
use lib.Ieee.Back.{round_whole}
use lib.Ieee.Scale.{round_same}
use Rattle.queue.specs.Time.{seconds_of, billion}

-- a time up to 2^53 ns is a float exactly
pub exact : (t : ℕ) → t ≤ 9007199254740992 → HasValue (of_int binary64 (pos t)) false t 1
unfolding of_int
exact t h = round_whole binary64 false t h

-- a float that is t in size, divided by 1000000000.0: the fraction, rounded
over : (x : Float) (t : ℕ) → HasValue x false t 1 → div binary64 x billion ≡ round binary64 false t 1000000000
unfolding div of_bits
over nan t v = absurd v
over (inf s) t v = absurd v
over (fin true m e) t v = absurd (true≢false v.0)
over (fin false m e) t v =
    let d : 0 < 1000000000 * down e = omega (arith, down_pos e) in
    round_same binary64 false (m * up e * 1) (1000000000 * down e) t 1000000000 d (omega arith)
    (ap (λ (n : ℕ). n * 1000000000) v.1 ∙ mul_assoc t (down e) 1000000000 ∙ ap (λ (n : ℕ). t * n) (mul_comm (down e) 1000000000))

-- the seconds of a time up to 2^53 ns are the fraction t / 1000000000, rounded once
pub rounded_once : (t : ℕ) → t ≤ 9007199254740992 → seconds_of t ≡ round binary64 false t 1000000000
unfolding seconds_of
rounded_once t h = over (of_int binary64 (pos t)) t (exact t h)
