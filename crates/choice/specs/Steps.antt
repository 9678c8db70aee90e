-- The best so far while the choices are walked, as the code keeps it. No public contract cites this.
use Rattle.std.specs.Prelude.{ℕ, ◌+◌, Bool, false, cond, ◌&&◌, ◌||◌, List, Float}
use Rattle.std.specs.Prelude.{Option, None, Some, is_some}
use Rattle.std.specs.Float.Ieee.{lt, is_nan}
use Rattle.base.specs.Refusals.{Outcome, refused, gives}
use Rattle.queue.specs.declared.QueueEntry.{QueueEntry}
use Rattle.matchmaker.specs.Quality.{MatchState, match_of}
use Rattle.seating.specs.Steps.{Scored}
use Rattle.choice.specs.Full.{Terms, Selection, passes, score_in}
use Rattle.choice.specs.declared.Best.{Best}

-- how many were tried, the best of those that passed, whether two or more did, and whether one of these scored NaN
pub record SoFar : Type 0 where
  pub tried : ℕ
  pub best : Option Scored
  pub many : Bool
  pub nan : Bool

abbrev pub so_far_of : Best → SoFar
so_far_of b =
    record {
      tried = b.tried;
      best = cond b.found (Some (record { teams = match_of b.teams; score = b.score })) None;
      many = b.many;
      nan = b.nan;
    }

abbrev pub unweighed : SoFar
unweighed = record { tried = 0; best = None; many = false; nan = false }

-- x takes the place of the best unless it scores lower
abbrev pub or_better : Option Scored → Scored → Scored
or_better None x = x
or_better (Some b) x = cond (lt x.score b.score) b x

-- one more choice, which passes; one more, which does not
abbrev pub passed : SoFar → MatchState → Float → SoFar
passed b m score =
    record {
      tried = b.tried + 1;
      best = Some (or_better b.best (record { teams = m; score = score }));
      many = b.many || is_some b.best;
      nan = b.nan || is_nan score;
    }

abbrev pub skipped : SoFar → SoFar
skipped b = record { tried = b.tried + 1; best = b.best; many = b.many; nan = b.nan }

-- n more that do not change the best
abbrev pub skipped_by : ℕ → SoFar → SoFar
skipped_by n b = record { tried = b.tried + n; best = b.best; many = b.many; nan = b.nan }

-- one more choice among these who wait
unfoldable pub weighed : Terms → List QueueEntry → SoFar → MatchState → SoFar
weighed t queue b m = cond (passes t queue m) (passed b m (score_in t m)) (skipped b)

-- what all choices come to
abbrev pub teams_in : Option Scored → Option MatchState
teams_in None = None
teams_in (Some p) = Some p.teams

unfoldable pub concluding : SoFar → Outcome Selection
concluding b = cond (b.many && b.nan) (refused 5) (gives (record { best = teams_in b.best; tried = b.tried }))
