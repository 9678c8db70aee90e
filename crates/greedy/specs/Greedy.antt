-- Document 01, "Greedy (`GreedySearch::search`)", and document 02, 2.2, "Equal distance goes to the longer wait".
use Rattle.std.specs.Prelude.{ℕ, zero, suc, Bool, false, cond, ◌&&◌, ◌||◌, ltb, Float, length, Option, None, Some, unwrap_or}
use mathlib.Core.List.{List, [], ◌∷◌, ◌++◌, map, foldl}
use Rattle.std.specs.Float.{inf, binary64}
use Rattle.std.specs.Float.Ieee.{sub, lt, eq}
use Rattle.base.specs.Floats as Floats
use Rattle.base.specs.Floats.{abs_of}
use Rattle.base.specs.Refusals.{gives, guarded}
use Rattle.base.specs.Lists.{member}
use Rattle.queue.specs.declared.QueueEntry.{QueueEntry}
use Rattle.queue.specs.Queue.{QueueState, without_all}
use Rattle.roster.specs.Roster.{Roster, rating_of}
use Rattle.matchmaker.specs.Quality.{MatchState, sum_of, average_from, quality_of}
use Rattle.seating.specs.declared.TeamComposition.{TeamComposition}
use Rattle.seating.specs.Seating.{Sheets, HandedOut, handed_out}
use Rattle.seating.specs.Searching.{search_check}
use Rattle.seating.specs.Turns.{alone, seats_left, takes_a, grown, complete}

-- ---- a pick

-- "distance of entry rating to the reference"
abbrev pub distance : Float → Float → Float
distance reference rating = abs_of (sub binary64 reference rating)

-- does a distance with a joined time go before another? "the strictly smallest distance" does, and "Among equal distances a greedy
-- pick now takes the earlier joined time"
unfoldable pub goes_before : Float → ℕ → Float → ℕ → Bool
goes_before distance joined near since = lt distance near || (eq distance near && ltb joined since)

-- of the nearest so far and an entry that stands behind it, the one that goes first: where neither goes before the other it is "then
-- the earlier place". "NaN or infinite distance is never picked"
unfoldable pub closer : Float → Option QueueEntry → QueueEntry → Option QueueEntry
closer reference None e = cond (lt (distance reference e.rating) (inf false)) (Some e) None
closer reference (Some near) e =
    cond (goes_before (distance reference e.rating) e.joined (distance reference near.rating) near.joined) (Some e) (Some near)

-- "A pick is the unused entry" that is nearest, if there is one
abbrev pub nearest : Float → List ℕ → List QueueEntry → Option QueueEntry
nearest reference used queue = foldl (closer reference) None (without_all used queue)

-- ---- one anchor

-- the players used so far, the teams, and the reference rating
pub record Filling : Type 0 where
  pub used : List ℕ
  pub teams : MatchState
  pub reference : Float

-- "an anchor becomes used and opens team A. The reference rating is the anchor's entry rating."
abbrev pub opened : List ℕ → QueueEntry → Filling
opened used e = record { used = e.player ∷ used; teams = alone e.player; reference = e.rating }

-- a player's roster rating, "0.0 where missing"
abbrev pub roster_rating : Roster → ℕ → Float
roster_rating r p = unwrap_or (rating_of r p) Floats.zero

-- "A's sum of roster ratings .., divided by A's length"; A is never empty here
abbrev pub reference_of : Roster → List ℕ → Float
reference_of r a = average_from (sum_of (map (roster_rating r) a)) (length a)

-- the pick takes its seat by turn. "After each A pick the reference becomes" A's.
abbrev pub picked : TeamComposition → Roster → Filling → QueueEntry → Filling
picked s r f e =
    record {
      used = e.player ∷ f.used;
      teams = grown s f.teams e.player;
      reference = cond (takes_a s f.teams) (reference_of r (grown s f.teams e.player).a.players) f.reference;
    }

abbrev pub if_some : {A B : Type 0} → Option A → (A → B) → B → B
if_some None f b = b
if_some (Some x) f b = f x

-- a pick for each seat that is left, as long as there is one
unfoldable pub filled : TeamComposition → Roster → List QueueEntry → ℕ → Filling → Filling
filled s r queue zero f = f
filled s r queue (suc left) f = if_some (nearest f.reference f.used queue) (λ e. filled s r queue left (picked s r f e)) f

-- ---- all anchors

pub record Search : Type 0 where
  pub used : List ℕ
  pub matches : List MatchState

abbrev pub begun : Search
begun = record { used = []; matches = [] }

-- the match is formed where it is complete. "Without a pick the anchor forms nothing, and its picks stay used."
abbrev pub formed_by : TeamComposition → Search → Filling → Search
formed_by s o f = record { used = f.used; matches = cond (complete s f.teams) (o.matches ++ (f.teams ∷ [])) o.matches }

-- "a used guest is skipped"
unfoldable pub anchored : TeamComposition → Roster → List QueueEntry → Search → QueueEntry → Search
anchored s r queue o e =
    cond (member e.player o.used) o (formed_by s o (filled s r queue (seats_left s) (opened o.used e)))

-- "Anchors go in queue order"
abbrev pub greedy_matches : TeamComposition → Roster → List QueueEntry → List MatchState
greedy_matches s r queue = (foldl (anchored s r queue) begun queue).matches

-- ---- GreedySearch::search

-- refusals 1, 2, 3 and 4, or the matches, each with its match_quality
abbrev pub greedy_rule : TeamComposition → Roster → QueueState → Sheets → HandedOut
greedy_rule s r q sheets =
    handed_out (λ m. quality_of r m.a.players m.b.players)
    (guarded (search_check s r q (length sheets.players) (length sheets.qualities)) (gives (greedy_matches s r q.entries)))
    sheets
