-- Matches drawn from a queue, doubles included, and what a sheet tells of them.
use mathlib.Core.Path.{◌≡◌, refl}
use mathlib.Core.List.{List, []}
use lib.Ieee.{Float}
use Rattle.base.specs.Refusals.{Outcome, refused, gives}
use Rattle.base.specs.Lists.{All}
use Rattle.queue.specs.declared.QueueEntry.{QueueEntry}
use Rattle.matchmaker.specs.Quality.{MatchState}
use Rattle.seating.specs.declared.TeamComposition.{TeamComposition}
use Rattle.seating.specs.Seating.{Sheets, lineup, seats, handed_out, read_off, told_by}
use Rattle.seating.proofs.Telling.{told_matches}
use Rattle.seating.specs.Seats.{Seating}

-- matches drawn from a queue, each just the lineup of its players
pub record Drawn (s : TeamComposition) (queue : List QueueEntry) (ms : List MatchState) : Type 0 where
  pub seating : Seating s queue ms
  pub lined : All (λ m. m ≡ lineup m.a.players m.b.players) ms

-- no match at all
pub drawn_none : (s : TeamComposition) (queue : List QueueEntry) → Drawn s queue []
unfolding seats
drawn_none s queue = record { seating = record { sizes = tt; different = tt; waiting = tt }; lined = tt }

module _ (s : TeamComposition) (queue : List QueueEntry) (quality : MatchState → Float) (sheets : Sheets) where
  -- a call that hands such matches out tells them
  pub drawn_told : (ms : List MatchState) → Drawn s queue ms → told_by s (handed_out quality (gives ms) sheets) ≡ ms
  drawn_told ms d = told_matches s quality ms sheets d.seating.sizes d.lined

  -- so what any call tells is so seated, and nothing where it is refused
  pub told_seating : (o : Outcome (List MatchState)) → ((ms : List MatchState) → o ≡ gives ms → Drawn s queue ms) → Seating s queue (told_by s (handed_out quality o sheets))
  unfolding read_off
  told_seating (refused n) h = (drawn_none s queue).seating
  told_seating (gives ms) h = let d : Drawn s queue ms = h ms refl in rw (drawn_told ms d) d.seating
