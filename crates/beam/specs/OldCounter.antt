-- Document 02, 2.1, "Queues from the old counter", of beam search: one statement over any list of entries, with doubles, with different
-- ratings for one guest, of any length. It has no law of copies, which take places in the width.
use Rattle.std.specs.Prelude.{ℕ, ◌≡◌, List}
use Rattle.base.specs.Refusals.{gives}
use Rattle.queue.specs.declared.QueueEntry.{QueueEntry}
use Rattle.queue.specs.Queue.{stating}
use Rattle.roster.specs.Roster.{Roster}
use Rattle.matchmaker.specs.Quality.{MatchState}
use Rattle.objective.specs.declared.score.MatchObjective.{MatchObjective}
use Rattle.seating.specs.declared.TeamComposition.{TeamComposition}
use Rattle.seating.specs.Seating.{Sheets, HandedOut, told_by}
use Rattle.seating.specs.Seats.{Seating}
use Rattle.beam.specs.Beam.{Beaming, beam_matches, beam_rule}

pub record OldCounterByBeam (queue : List QueueEntry) : Type 0 where
  -- ".. beam matches seat A + B different queued guests and nobody in two matches": by any score, where it is not refused
  pub seats : (g : Beaming) (ms : List MatchState) → beam_matches g queue ≡ gives ms → Seating g.sizes queue ms
  -- so do the matches on the guests' sheet after a call. `left` is what the call leaves, its answer beside its sheets at the end: by the
  -- contract of `BeamSearch::search` that is what the rule says
  pub call : (s : TeamComposition) (width : ℕ) (o : MatchObjective) (r : Roster) (n clock : ℕ) (sheets : Sheets) (left : HandedOut) →
      left ≡ beam_rule s width o r (stating n queue) clock sheets → Seating s queue (told_by s left)
