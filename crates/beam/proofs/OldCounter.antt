-- Document 02, 2.1: the beam's statement holds of every list of entries.
use Prim.Native.Nat.{ℕ}
use mathlib.Core.List.{List}
use lib.Ieee.{Float}
use lib.ListN.{length}
use Rattle.base.specs.Refusals.{guarded}
use Rattle.base.proofs.Checks.{passed_to}
use Rattle.queue.specs.declared.QueueEntry.{QueueEntry}
use Rattle.queue.specs.Queue.{QueueState, stating}
use Rattle.roster.specs.Roster.{Roster}
use Rattle.matchmaker.specs.Quality.{MatchState, quality_of}
use Rattle.objective.specs.declared.score.MatchObjective.{MatchObjective}
use Rattle.seating.specs.declared.TeamComposition.{TeamComposition}
use Rattle.seating.specs.Seating.{Sheets, told_by}
use Rattle.seating.specs.Seats.{Seating}
use Rattle.seating.proofs.Drawn.{told_seating}
use Rattle.beam.specs.Beam.{Beaming, beaming, beam_matches, beam_check, beam_rule}
use Rattle.beam.specs.OldCounter.{OldCounterByBeam}
use Rattle.beam.proofs.Drawn.{beam_drawn}

-- a match's quality, as the search writes it
abbrev quality : Roster → MatchState → Float
quality r m = quality_of r m.a.players m.b.players

-- what a beam search leaves, told off its sheet
pub beam_told : (s : TeamComposition) (width : ℕ) (o : MatchObjective) (r : Roster) (q : QueueState) (clock : ℕ) (sheets : Sheets) → Seating s q.entries (told_by s (beam_rule s width o r q clock sheets))
beam_told s width o r q clock sheets =
    let check = beam_check s width r q clock (length sheets.players) (length sheets.qualities) in
    let g : Beaming = beaming s width o r q.entries clock in
    told_seating s q.entries (quality r) sheets (guarded check (beam_matches g q.entries))
    (λ ms e. beam_drawn g q.entries ms (passed_to check _ e).1)

pub old_counter_by_beam : (queue : List QueueEntry) → OldCounterByBeam queue
old_counter_by_beam queue =
    record {
      seats = λ g ms e. (beam_drawn g queue ms e).seating;
      call = λ s width o r n clock sheets left e. rw e (beam_told s width o r (stating n queue) clock sheets);
    }
