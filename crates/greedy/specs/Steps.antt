-- Greedy search as the code goes: used marks by place, columns that were read once, running sums. No public contract cites this.
use Rattle.std.specs.Prelude.{ℕ, zero, suc, ◌+◌, ◌-◌, min, ◌≡◌, Bool, true, false, cond, List, [], ◌∷◌, ◌++◌, map, leb, eqb, Float, length, take, drop, get_or, set, replicate}
use Rattle.std.specs.Float.{nan, inf, binary64}
use Rattle.std.specs.Float.Ieee.{add, sub, neg, lt}
use Rattle.base.specs.Floats as Floats
use Rattle.base.specs.Lists.{any, times}
use Rattle.base.specs.Refusals.{refused, gives}
use Rattle.queue.specs.declared.QueueEntry.{QueueEntry}
use Rattle.queue.specs.Queue.{joined_over}
use Rattle.roster.specs.Roster.{Roster}
use Rattle.matchmaker.specs.Quality.{MatchState, match_of, average_from, seated, quality_of}
use Rattle.seating.specs.declared.TeamComposition.{TeamComposition}
use Rattle.seating.specs.Seating.{Sheets, HandedOut, handed_out}
use Rattle.seating.specs.Steps.{overlaid}
use Rattle.seating.specs.Turns.{alone, seats_left, takes_a, grown, complete}
use Rattle.greedy.specs.Greedy.{distance, roster_rating, greedy_matches}
use Rattle.greedy.specs.declared.Filling.{Filling}
use Rattle.greedy.specs.declared.Nearest.{Nearest}
use Rattle.greedy.specs.declared.Written.{Written}

-- what is read of each place of the queue: the player, the entry's rating, the roster's rating or 0.0
pub record Columns : Type 0 where
  pub players : List ℕ
  pub ratings : List Float
  pub rostered : List Float

abbrev pub columns : List ℕ → List Float → List Float → Columns
columns players ratings rostered = record { players = players; ratings = ratings; rostered = rostered }

-- the first n places of these columns have the player, the rating, the roster's rating and the joined time of each entry of the queue
pub record FromQueue (r : Roster) (queue : List QueueEntry) (n : ℕ) (players : List ℕ) (ratings rostered : List Float) (joined : List ℕ) : Type 0 where
  pub whole : n ≡ length queue
  pub named : take n players ≡ map (λ e. e.player) queue
  pub rated : take n ratings ≡ map (λ e. e.rating) queue
  pub known : take n rostered ≡ map (λ e. roster_rating r e.player) queue
  pub timed : take n joined ≡ map (λ e. e.joined) queue

-- the nearest so far: its place and its distance
pub record Near : Type 0 where
  pub place : ℕ
  pub distance : Float

unfoldable pub nearer : Float → List Float → List Bool → ℕ → Near → Near
nearer reference ratings used i best =
    cond (get_or used i false) best
    (cond (lt (distance reference (get_or ratings i nan)) best.distance)
    (record { place = i; distance = distance reference (get_or ratings i nan) })
    best)

-- the place of the nearest among the first n, and n where there is none
abbrev pub nearest_place : Float → List Float → List Bool → ℕ → ℕ
nearest_place reference ratings used n = (times (nearer reference ratings used) (record { place = n; distance = inf false }) n).place

-- a column with a at every place of the player; what is behind these places stays
unfoldable pub struck : {A : Type 0} → A → ℕ → List ℕ → List A → List A
struck a p [] us = us
struck a p (x ∷ xs) [] = []
struck a p (x ∷ xs) (u ∷ us) = cond (eqb x p) a u ∷ struck a p xs us

-- the marks with every place of the player
abbrev pub marked : ℕ → List ℕ → List Bool → List Bool
marked = struck true

-- the ratings of those who are free: NaN at every used place
unfoldable pub free_of : List Float → List Bool → List Float
free_of [] us = []
free_of (r ∷ rs) [] = r ∷ rs
free_of (r ∷ rs) (u ∷ us) = cond u nan r ∷ free_of rs us

-- a float without its sign, but that -0.0 stays
unfoldable pub magnitude_of : Float → Float
magnitude_of x = cond (lt x Floats.zero) (neg x) x

-- of the nearest so far and the place i, by the ratings of those who are free
unfoldable pub nearer_free : Float → List Float → ℕ → Near → Near
nearer_free reference free i best =
    cond (lt (magnitude_of (sub binary64 reference (get_or free i nan))) best.distance)
    (record { place = i; distance = magnitude_of (sub binary64 reference (get_or free i nan)) })
    best

-- the place of the nearest among the first n who are free, and n where there is none
abbrev pub nearest_free : Float → List Float → ℕ → ℕ
nearest_free reference free n = (times (nearer_free reference free) (record { place = n; distance = inf false }) n).place

-- none so far: the place behind the first n, and infinity
abbrev pub nobody_of : ℕ → Near
nobody_of n = record { place = n; distance = inf false }

abbrev pub near_of : Nearest → Near
near_of b = record { place = b.place; distance = b.distance }

-- the turns of a run that begins at the place start
abbrev pub nearer_from : Float → List Float → ℕ → ℕ → Near → Near
nearer_from reference free start i = nearer_free reference free (start + i)

-- the nearer of what two runs found, the first's among equals
unfoldable pub nearer_of : Near → Near → Near
nearer_of first second = cond (lt second.distance first.distance) second first

pub record Fill : Type 0 where
  pub used : List Bool
  pub teams : MatchState
  pub sum : Float
  pub reference : Float

abbrev pub fill_of : List Bool → Filling → Fill
fill_of used f = record { used = used; teams = match_of f.teams; sum = f.sum; reference = f.reference }

abbrev pub opening : Columns → List Bool → ℕ → Fill
opening c used at =
    record {
      used = marked (get_or c.players at 0) c.players used;
      teams = alone (get_or c.players at 0);
      sum = add binary64 Floats.zero (get_or c.rostered at nan);
      reference = get_or c.ratings at nan;
    }

-- A's running sum with one more rating
abbrev pub summed : List Float → Fill → ℕ → Float
summed rostered f at = add binary64 f.sum (get_or rostered at nan)

unfoldable pub picking : TeamComposition → List ℕ → List Float → Fill → ℕ → Fill
picking s players rostered f at =
    cond (takes_a s f.teams)
    (record {
      used = marked (get_or players at 0) players f.used;
      teams = grown s f.teams (get_or players at 0);
      sum = summed rostered f at;
      reference = average_from (summed rostered f at) (length (grown s f.teams (get_or players at 0)).a.players);
    })
    (record {
      used = marked (get_or players at 0) players f.used;
      teams = grown s f.teams (get_or players at 0);
      sum = f.sum;
      reference = f.reference;
    })

unfoldable pub filling : TeamComposition → Columns → ℕ → ℕ → Fill → Fill
filling s c n zero f = f
filling s c n (suc left) f =
    cond (leb n (nearest_place f.reference c.ratings f.used n)) f
    (filling s c n left (picking s c.players c.rostered f (nearest_place f.reference c.ratings f.used n)))

pub record Course : Type 0 where
  pub used : List Bool
  pub matches : List MatchState

abbrev pub closing : TeamComposition → Course → Fill → Course
closing s o f = record { used = f.used; matches = cond (complete s f.teams) (o.matches ++ (f.teams ∷ [])) o.matches }

unfoldable pub anchoring : TeamComposition → Columns → ℕ → ℕ → Course → Course
anchoring s c n at o =
    cond (get_or o.used at false) o
    (closing s o (filling s c n (seats_left s) (opening c o.used at)))

-- nobody is used, and nothing formed
abbrev pub unmarked : Course
unmarked = record { used = replicate 64 false; matches = [] }

-- n anchors, one after another, each at its place
abbrev pub running : TeamComposition → Columns → List ℕ → ℕ → Course → Course
running s c turns n o = times (λ i. anchoring s c n (get_or turns i 0)) o n

-- ---- the sheets while matches are written

-- how far they are written, and what stands on them
pub record Paper : Type 0 where
  pub seats : ℕ
  pub count : ℕ
  pub players : List ℕ
  pub qualities : List Float

abbrev pub paper_of : Written → List ℕ → List Float → Paper
paper_of w players qualities = record { seats = w.seats; count = w.count; players = players; qualities = qualities }

-- one match more, into the rest of the sheet, and its quality
abbrev pub added : Roster → MatchState → Paper → Paper
added r m p =
    record {
      seats = p.seats + min (length (seated m)) (length p.players - p.seats);
      count = p.count + 1;
      players = take p.seats p.players ++ overlaid (seated m) (drop p.seats p.players);
      qualities = set p.qualities p.count (quality_of r m.a.players m.b.players);
    }

-- where it is complete
abbrev pub forming : TeamComposition → Roster → MatchState → Paper → Paper
forming s r m p = cond (complete s m) (added r m p) p

-- ---- what is handed out

-- refusal 4, or the matches, and the sheets as they are left
abbrev pub handing : TeamComposition → Roster → List QueueEntry → Sheets → HandedOut
handing s r queue sheets =
    handed_out (λ m. quality_of r m.a.players m.b.players) (cond (any joined_over queue) (refused 4) (gives (greedy_matches s r queue))) sheets
