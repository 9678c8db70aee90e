-- The score as the code takes it: waits by the columns of those who wait, sums by rows found before.
use Prim.Native.Nat.{ℕ}
use mathlib.Core.Path.{◌≡◌, refl}
use mathlib.Core.List.{List, [], ◌∷◌, map, foldl}
use Rattle.std.specs.Prelude.{Option}
use lib.Dec.{eqb}
use lib.Ieee.{Float}
use lib.ListN.{length, take}
use Rattle.base.specs.Floats.{zero}
use Rattle.base.specs.Lists.{seek, any}
use Rattle.base.proofs.Arrays.{take_map}
use Rattle.base.proofs.Cases.{cases}
use Rattle.queue.specs.Time.{time_over}
use Rattle.queue.specs.Queue.{joined_over}
use Rattle.queue.specs.declared.QueueEntry.{QueueEntry}
use Rattle.queue.proofs.Laws.{over_column}
use Rattle.roster.specs.Roster.{of_deviations, row_of, observe}
use Rattle.roster.specs.Rows.{value_at}
use Rattle.matchmaker.specs.Quality.{MatchState, seated, observations, sum_of}
use Rattle.matchmaker.specs.Steps.{rows_quality}
use Rattle.matchmaker.proofs.Rows.{observed_rows, quality_of_rows}
use Rattle.objective.specs.declared.score.MatchObjective.{MatchObjective}
use Rattle.objective.specs.Score.{longer, waited_seconds, longest_wait, score_from, score_of}
use Rattle.objective.specs.Steps.{column_wait}

-- ---- waits by columns

-- the columns of those who wait tell the wait of a player's first entry
wait_by_columns : (clock : ℕ) (es : List QueueEntry) (p : ℕ) → column_wait clock (map (λ e. e.player) es) (map (λ e. e.joined) es) p ≡ waited_seconds clock es p
unfolding seek observe
wait_by_columns clock [] p = refl
wait_by_columns clock (e ∷ es) p = cases (eqb e.player p) (λ t. rw t) (λ f. rw f (wait_by_columns clock es p))

module _ (es : List QueueEntry) (n : ℕ) where
  -- of the first n, a joined time is above 2^53 where it is so in the column
  pub over_by_column : any time_over (take n (map (λ e. e.joined) es)) ≡ any joined_over (take n es)
  over_by_column = rw (take_map (λ (e : QueueEntry). e.joined) n es) (over_column (take n es))

  -- the first n places of the columns tell the waits of the first n
  pub waits_by_columns : (clock : ℕ) → column_wait clock (take n (map (λ e. e.player) es)) (take n (map (λ e. e.joined) es)) ≡ waited_seconds clock (take n es)
  waits_by_columns clock =
      rw (take_map (λ (e : QueueEntry). e.joined) n es, take_map (λ (e : QueueEntry). e.player) n es)
      (λ j p. wait_by_columns clock (take n es) p j)

-- the longest wait of players who are known, by waits that are known
pub longest_known : {asked players : List ℕ} {given wait : ℕ → Option Float} → asked ≡ players → given ≡ wait → foldl longer zero (observations given asked) ≡ foldl longer zero (observations wait players)
longest_known e h = rw (e, h)

-- ---- the score by rows

-- where both columns are as long as the ids, the score by everyone's rows is the score
pub score_of_rows : (o : MatchObjective) (ids : List ℕ) (ratings deviations : List Float) (queue : List QueueEntry) (clock : ℕ) (m : MatchState) → length ratings ≡ length ids → length deviations ≡ length ids → {x y z : List ℕ} → x ≡ map (λ p. row_of p ids) m.a.players → y ≡ map (λ p. row_of p ids) m.b.players → z ≡ map (λ p. row_of p ids) (seated m) → {w : Float} → w ≡ longest_wait clock queue (seated m) → score_from o (rows_quality ratings x y) w (sum_of (observations (value_at deviations) z)) (length (seated m)) ≡ score_of o (of_deviations ids ratings deviations) queue clock m
score_of_rows o ids ratings deviations queue clock m k l x y z w =
    rw (quality_of_rows ids ratings m.a.players m.b.players k x y, w, z, observed_rows ids deviations l (seated m))
