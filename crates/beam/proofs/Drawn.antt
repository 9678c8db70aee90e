-- What beam search draws from any queue, doubles included, and what its call tells.
use mathlib.Core.Path.{◌≡◌}
use mathlib.Core.List.{List}
use Rattle.base.specs.Refusals.{gives}
use Rattle.queue.specs.declared.QueueEntry.{QueueEntry}
use Rattle.matchmaker.specs.Quality.{MatchState}
use Rattle.seating.proofs.Telling.{lined_up}
use Rattle.beam.specs.Beam.{Beaming, beam_matches}
use Rattle.base.proofs.All.{all_so}
use Rattle.beam.proofs.Seats.{beam_sized, beam_stated, beam_different, beam_queued}
use Rattle.seating.proofs.Drawn.{Drawn}

-- the beam's, by any score, where no ranking is refused
pub beam_drawn : (g : Beaming) (queue : List QueueEntry) (ms : List MatchState) → beam_matches g queue ≡ gives ms → Drawn g.sizes queue ms
beam_drawn g queue ms e =
    record {
      seating = record { sizes = beam_sized g queue ms e; different = beam_different g queue ms e; waiting = beam_queued g queue ms e };
      lined = all_so _ _ lined_up ms (beam_stated g queue ms e);
    }
