-- Steps of the check of the columns, and the table of rows by their ids. No public contract cites this.
use Rattle.std.specs.Prelude.{ℕ, zero, suc, ◌+◌, ◌<◌, ◌/◌, ◌%◌, ◌≡◌, Bool, cond, List, ◌∷◌, eqb, length, get_or}
use Rattle.base.specs.Refusals.{Outcome, refused, gives}
use Rattle.base.specs.Lists.{any, every}
use Rattle.roster.specs.Roster.{too_long}

-- the check of so many rows and of the lengths of the other columns, before the ids are looked at
abbrev pub lengths_check : ℕ → List ℕ → Outcome Unit
lengths_check rows lengths =
    cond (any too_long (rows ∷ lengths)) (refused 1)
    (cond (every (λ n. eqb n rows) lengths) (gives tt) (refused 2))

-- the bucket that an id falls into, one of 1,024
unfoldable pub bucket_of : ℕ → ℕ
bucket_of id = (id % 1024 + id / 0x1_0000_0000 % 1024) % 1024

-- the last of the first n rows whose id p holds of, counted from 1, and 0 where there is none
unfoldable pub last_row : (ℕ → Bool) → List ℕ → ℕ → ℕ
last_row p ids zero = 0
last_row p ids (suc n) = cond (p (get_or ids n 0)) (suc n) (last_row p ids n)

-- the last row that has the id
abbrev pub last_of : ℕ → List ℕ → ℕ → ℕ
last_of id = last_row (λ x. eqb x id)

-- the last row whose id falls into the bucket
abbrev pub last_in : ℕ → List ℕ → ℕ → ℕ
last_in bucket = last_row (λ x. eqb (bucket_of x) bucket)

-- for each of the first n rows the one before it in its bucket
abbrev pub Chained : List ℕ → ℕ → List ℕ → Type 0
Chained ids n before = (row : ℕ) → row < n → get_or before row 0 ≡ last_in (bucket_of (get_or ids row 0)) ids row

-- the table of the first n rows: for each bucket the last row that fell into it, and for each row the one before
pub record Noted (ids : List ℕ) (n : ℕ) (last before : List ℕ) : Type 0 where
  pub buckets : length last ≡ 1024
  pub rows : length before ≡ 128
  pub lasts : (bucket : ℕ) → bucket < 1024 → get_or last bucket 0 ≡ last_in bucket ids n
  pub chained : Chained ids n before
