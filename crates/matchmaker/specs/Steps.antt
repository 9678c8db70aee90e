-- Steps of the sums, as the code takes them one player at a time, and of the quality by rows found before. Leaves cite these;
-- document 01's own functions don't.
use Rattle.std.specs.Prelude.{ℕ, List, length, Float}
use Rattle.std.specs.Prelude.{Option, None, Some}
use Rattle.roster.specs.Rows.{value_at}
use Rattle.matchmaker.specs.Quality.{observations, sum_of, average_from, quality_between}

-- b with one more observation, if there is one
abbrev pub absorb : {A B : Type 0} → (B → A → B) → B → Option A → B
absorb f b None = b
absorb f b (Some x) = f b x

-- the average of what a column says in these rows
abbrev pub rows_average : List Float → List ℕ → Float
rows_average column rows = average_from (sum_of (observations (value_at column) rows)) (length rows)

-- the quality of two teams whose players have these rows
abbrev pub rows_quality : List Float → List ℕ → List ℕ → Float
rows_quality ratings a b = quality_between (rows_average ratings a) (rows_average ratings b)
