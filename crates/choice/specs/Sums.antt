-- The sums that grow with a choice while it is walked, as the code keeps them. No public contract cites this.
use Rattle.std.specs.Prelude.{ℕ, zero, suc, ◌+◌, ◌≤◌, ◌≡◌, Bool, true, false, cond, ◌&&◌, List, [], ltb, Float, length, get_or}
use Rattle.std.specs.Float.{nan, binary64}
use Rattle.std.specs.Float.Ieee.{add, lt}
use Rattle.base.specs.Floats as Floats
use Rattle.roster.specs.Roster.{Roster, rating_of}
use Rattle.matchmaker.specs.Quality.{MatchState, seated, observations, sum_of, average_from, quality_between}
use Rattle.objective.specs.declared.soft.SoftObjective.{SoftObjective}
use Rattle.objective.specs.Soft.{latency_at, weighted_sum}
use Rattle.seating.specs.declared.TeamComposition.{TeamComposition}
use Rattle.choice.specs.declared.Sums.{Sums}

-- ---- the sums

-- a sum with a rating, if there is a row
abbrev pub plus_row : Bool → Float → Float → Float
plus_row row rating sum = cond row (add binary64 sum rating) sum

abbrev pub no_sums : Sums
no_sums = record { a = Floats.zero; b = Floats.zero; all = Floats.zero }

-- the sums with one more player, who joins A or B
unfoldable pub sums_with : Sums → Bool → Bool → Float → Sums
sums_with x first row rating =
    cond first (record { a = plus_row row rating x.a; b = x.b; all = plus_row row rating x.all })
    (record { a = x.a; b = plus_row row rating x.b; all = plus_row row rating x.all })

-- the score of teams of these sums and lengths
unfoldable pub score_by : List SoftObjective → Sums → ℕ → ℕ → Float
score_by objectives x a b =
    weighted_sum (quality_between (average_from x.a a) (average_from x.b b)) (latency_at (average_from x.all (a + b))) objectives

-- the sums of a match
abbrev pub sums_of : Roster → MatchState → Sums
sums_of r m =
    record {
      a = sum_of (observations (rating_of r) m.a.players);
      b = sum_of (observations (rating_of r) m.b.players);
      all = sum_of (observations (rating_of r) (seated m));
    }

-- a match while it fills, with its sums: nobody is in team B while A is short
pub record Summing (r : Roster) (s : TeamComposition) (m : MatchState) (x : Sums) : Type 0 where
  pub room : length m.a.players ≤ s.a
  pub order : cond (ltb (length m.a.players) s.a) m.b.players [] ≡ []
  pub sums : x ≡ sums_of r m

-- ---- idle choices

-- is the choice idle whose last seat goes to the player at a place? `top` is the best score where one was found, `many` whether two
-- or more passed.
abbrev pub idle_at : List SoftObjective → TeamComposition → List Bool → List Float → Sums → Bool → Bool → Bool → Float → ℕ → Bool
idle_at objectives s rows rated x first found many top at =
    found && (many && lt (score_by objectives (sums_with x first (get_or rows at false) (get_or rated at nan)) s.a s.b) top)

-- is it so at each of n places from `at` on?
unfoldable pub idle_from : (ℕ → Bool) → ℕ → ℕ → Bool
idle_from f at zero = true
idle_from f at (suc n) = f at && idle_from f (at + 1) n
