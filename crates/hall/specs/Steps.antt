-- What the code computes on its way.
use Rattle.std.specs.Prelude.{ℕ, ◌≤◌, ◌≡◌, cond, List, map, Float, length, take}
use Rattle.std.specs.Prelude.{Option, None, Some}
use Rattle.base.specs.Refusals.{Outcome, refused, gives}
use Rattle.base.specs.Lists.{any}
use Rattle.base.specs.Numbers.{outcome_in}
use Rattle.queue.specs.Time.{time_over}
use Rattle.matchmaker.specs.Quality.{MatchState}
use Rattle.seating.specs.declared.TeamComposition.{TeamComposition}
use Rattle.seating.specs.Seating.{Sheets, are_short, seats, handed_out}
use Rattle.hall.specs.Games.{eligible}
use Rattle.hall.specs.Hall.{Content, same, content_in, answer_in, entry_of, has_time_over}
use Rattle.hall.specs.Rounds.{Method, Found, findings, quality_by, matches_in, matches_from, tried_in}
use Rattle.hall.specs.declared.Booking.{Booking}
use Rattle.hall.specs.declared.Note.{Note}
use Rattle.hall.specs.declared.rounds.Handed.{Handed}

-- ---- the key book

-- the answer that was noted, 7 where the number stands for none
abbrev pub heard_or : Option (Outcome (Unit {0})) → Outcome (Unit {0})
heard_or None = refused 7
heard_or (Some a) = a

-- what a note says to a call with its key
abbrev pub heard_from : Note → Content → Outcome (Unit {0})
heard_from m c = cond (same (content_in m) c) (heard_or (answer_in m.kind m.answer)) (refused 7)

-- a note of this content with this answer
abbrev pub note_with : Content → ℕ → Note
note_with c n =
    record {
      player = c.held.player;
      joined = c.held.joined;
      rating_bits = c.held.rating_bits;
      party = c.held.party;
      role = c.held.role;
      game = c.held.game;
      kind = c.kind;
      answer = n;
    }

-- ---- rounds

-- the clock of a round, and one above 2^53 where a booking's time is
abbrev pub clock_among : ℕ → List Booking → ℕ
clock_among clock ws = cond (any has_time_over ws) 18446744073709551615 clock

-- refusal 3 of a full round, and 4 of its clock; of the sheets only the lengths count
abbrev pub sheets_and_clock_check : ℕ → ℕ → ℕ → Outcome Unit
sheets_and_clock_check clock players qualities = cond (are_short players qualities) (refused 3) (cond (time_over clock) (refused 4) (gives tt))

-- the numbers of a round that found this, beside its sheets as it left them
pub record HandedNumbers (quality : MatchState → Float) (sheets : Sheets) (o : Outcome Found) (r : Handed) (players : List ℕ) (qualities : List Float) : Type 0 where
  pub handed : record { answer = outcome_in r.refusal r.count; sheets = record { players = players; qualities = qualities } } ≡ handed_out quality (matches_in o) sheets
  pub count : r.count ≡ length (matches_from o)
  pub tried : r.tried ≡ tried_in o
  -- the seated stand in the first places of the sheet
  pub fits : r.seats ≤ length players
  pub seated : take r.seats players ≡ seats (matches_from o)

-- the numbers of this method with these sizes over the bookings of a game, among these who wait
abbrev pub FoundNumbers : Method → ℕ → Sheets → TeamComposition → ℕ → List Booking → Handed → List ℕ → List Float → Type 0
FoundNumbers m clock sheets s g ws = HandedNumbers (quality_by m) sheets (findings m clock sheets s (map entry_of (eligible g ws)) ws)
