-- Document 01, "Beam (`BeamSearch::search`)".
use Rattle.std.specs.Prelude.{ℕ, zero, suc, Bool, false, not, cond, ◌||◌, ltb, Float, length, take, Option, None, Some}
use mathlib.Core.List.{List, [], ◌∷◌, ◌++◌, map, foldl}
use Rattle.base.specs.Refusals.{Outcome, refused, gives, guarded}
use Rattle.base.specs.Lists.{seek, any, keep, member}
use Rattle.base.specs.Ranking.{higher, sort_by, unrankable}
use Rattle.queue.specs.Time.{time_over}
use Rattle.queue.specs.declared.QueueEntry.{QueueEntry}
use Rattle.queue.specs.Queue.{QueueState, joined_over}
use Rattle.roster.specs.Roster.{Roster, deviations_check}
use Rattle.matchmaker.specs.Quality.{MatchState, seated, quality_of}
use Rattle.objective.specs.declared.score.MatchObjective.{MatchObjective}
use Rattle.objective.specs.Score.{score_of}
use Rattle.seating.specs.declared.TeamComposition.{TeamComposition}
use Rattle.seating.specs.Seating.{Sheets, HandedOut, sizes_over, are_short, seats, handed_out}
use Rattle.seating.specs.Turns.{alone, seats_left, grown, complete}

-- how a beam search goes: the sizes, the width, and the score of a partial match
pub record Beaming : Type 0 where
  pub sizes : TeamComposition
  pub width : ℕ
  pub score : MatchState → Float

-- ---- the expansions

-- "by each queue entry in order that is neither used nor in it, by greedy's turn rule"
abbrev pub expansions_of : TeamComposition → List ℕ → List QueueEntry → MatchState → List MatchState
expansions_of s used queue m =
    map (λ e. grown s m e.player) (keep (λ e. not (member e.player used || member e.player (seated m))) queue)

-- "Expand each partial"
unfoldable pub expansions : TeamComposition → List ℕ → List QueueEntry → List MatchState → List MatchState
expansions s used queue [] = []
expansions s used queue (m ∷ ms) = expansions_of s used queue m ++ expansions s used queue ms

-- ---- the steps of one anchor

-- the partial matches that are kept, and whether a step so far met refusal 5
pub record Beam : Type 0 where
  pub partials : List MatchState
  pub unranked : Bool

-- "Rank all expansions by score, highest first, equal scores in order of arising, and keep the first width."
unfoldable pub stepped : Beaming → List ℕ → List QueueEntry → Beam → Beam
stepped g used queue b =
    record {
      partials = take g.width (sort_by (higher g.score) (expansions g.sizes used queue b.partials));
      unranked = b.unranked || unrankable (map g.score (expansions g.sizes used queue b.partials));
    }

unfoldable pub steps : Beaming → List ℕ → List QueueEntry → ℕ → Beam → Beam
steps g used queue zero b = b
steps g used queue (suc n) b = steps g used queue n (stepped g used queue b)

-- "start from ({anchor}, {})"
abbrev pub starting_from : ℕ → Beam
starting_from anchor = record { partials = alone anchor ∷ []; unranked = false }

-- "The first complete one", if there is one
abbrev pub concluded : TeamComposition → Beam → Outcome (Option MatchState)
concluded s b = cond b.unranked (refused 5) (gives (seek (complete s) Some None b.partials))

-- a step for each seat that is left
unfoldable pub beam_of : Beaming → List ℕ → List QueueEntry → ℕ → Outcome (Option MatchState)
beam_of g used queue anchor = concluded g.sizes (steps g used queue (seats_left g.sizes) (starting_from anchor))

-- ---- all anchors

-- what is found "is formed and its guests are used .. Otherwise only the anchor is freed", so just the seated are used
abbrev pub formed_with : List MatchState → Outcome (Option MatchState) → Outcome (List MatchState)
formed_with ms (refused n) = refused n
formed_with ms (gives None) = gives ms
formed_with ms (gives (Some m)) = gives (ms ++ (m ∷ []))

-- a used anchor is skipped, as greedy skips it; behind a refusal nothing follows
abbrev pub anchored_after : Beaming → List QueueEntry → Outcome (List MatchState) → QueueEntry → Outcome (List MatchState)
anchored_after g queue (refused n) e = refused n
anchored_after g queue (gives ms) e =
    cond (member e.player (seats ms)) (gives ms) (formed_with ms (beam_of g (seats ms) queue e.player))

abbrev pub beam_matches : Beaming → List QueueEntry → Outcome (List MatchState)
beam_matches g queue = foldl (anchored_after g queue) (gives []) queue

-- ---- BeamSearch::search

-- refusals 1, "width over 32" too, 2, 3 and 4
abbrev pub beam_check : TeamComposition → ℕ → Roster → QueueState → ℕ → ℕ → ℕ → Outcome Unit
beam_check s width r q clock players qualities =
    cond (ltb 64 q.size || (sizes_over s || ltb 32 width)) (refused 1)
    (guarded (deviations_check r)
    (cond (are_short players qualities) (refused 3) (cond (time_over clock || any joined_over q.entries) (refused 4) (gives tt))))

abbrev pub beaming : TeamComposition → ℕ → MatchObjective → Roster → List QueueEntry → ℕ → Beaming
beaming s width o r queue clock = record { sizes = s; width = width; score = score_of o r queue clock }

-- the matches, each with its match_quality
abbrev pub beam_rule : TeamComposition → ℕ → MatchObjective → Roster → QueueState → ℕ → Sheets → HandedOut
beam_rule s width o r q clock sheets =
    handed_out (λ m. quality_of r m.a.players m.b.players)
    (guarded (beam_check s width r q clock (length sheets.players) (length sheets.qualities))
    (beam_matches (beaming s width o r q.entries clock) q.entries))
    sheets
