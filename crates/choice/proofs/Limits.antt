-- The turns of the loop that holds the counts against their limits.
use Prim.Native.Nat.{ℕ, suc, ◌/◌, ◌%◌, ◌≤◌, ◌<◌}
use mathlib.Core.Path.{◌≡◌}
use mathlib.Core.Bool.{Bool, false}
use borrow.Author.Tests.{le-leb, lt-leb}
use Rattle.choice.specs.Reading.{in_limits}

module _ (n counts least most : ℕ) {left : ℕ} {v : Bool} (inv : in_limits left counts least most ≡ v) (more : left ≡ suc n) where
  -- the next count is too low
  pub limits_few : counts % 256 < least % 256 → false ≡ v
  unfolding in_limits
  limits_few h = rw (more, lt-leb (least % 256) (counts % 256) h) at inv

  module _ (enough : least % 256 ≤ counts % 256) where
    -- the next count is too high
    pub limits_many : most % 256 < counts % 256 → false ≡ v
    unfolding in_limits
    limits_many h = rw (more, le-leb (least % 256) (counts % 256) enough, lt-leb (counts % 256) (most % 256) h) at inv

    -- it is within its limits
    pub limits_on : counts % 256 ≤ most % 256 → in_limits n (counts / 256) (least / 256) (most / 256) ≡ v
    unfolding in_limits
    limits_on h = rw (more, le-leb (least % 256) (counts % 256) enough, le-leb (counts % 256) (most % 256) h) at inv
