-- How the code of the nearest generator reads and counts. No public contract cites this.
use Rattle.std.specs.Prelude.{ℕ, zero, suc, ◌-◌, cond, ltb}

-- how many matches of so many seats are cut from n players, at most the given number
unfoldable pub how_many : ℕ → ℕ → ℕ → ℕ
how_many seats zero n = 0
how_many seats (suc k) n = cond (ltb n seats) 0 (suc (how_many seats k (n - seats)))
