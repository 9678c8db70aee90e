-- The code's search over columns that were read from a queue is the definition's, and its matches have room on the sheets.
use Prim.Native.Nat.{ℕ, ◌+◌, ◌≤◌, ◌<◌}
use mathlib.Core.Path.{◌≡◌, refl, sym, ap, ◌∙◌}
use mathlib.Core.Bool.{true, false}
use mathlib.Core.List.{List, map}
use native.Mathlib.Omega.{arith}
use lib.Ieee.{Float, nan}
use lib.ListN.{length, take, get_or}
use lib.Seq.{take-take}
use Rattle.base.specs.Lists.{All, any, places_from}
use Rattle.base.specs.Refusals.{Outcome, gives}
use Rattle.base.proofs.Places.{place_at}
use Rattle.queue.specs.declared.QueueEntry.{QueueEntry}
use Rattle.queue.specs.Columns.{no_entry}
use Rattle.queue.specs.Queue.{joined_over}
use Rattle.roster.specs.Roster.{Roster}
use Rattle.ranking.specs.Times.{places_by_time, never_fall}
use Rattle.matchmaker.specs.Quality.{MatchState, quality_of}
use Rattle.seating.specs.declared.TeamComposition.{TeamComposition}
use Rattle.seating.specs.Seating.{Sheets, seats, handed_out}
use Rattle.seating.specs.Steps.{RatedOut}
use Rattle.seating.proofs.Handing.{handed_out_lem}
use Rattle.seating.proofs.Checked.{in_time}
use Rattle.greedy.specs.Greedy.{roster_rating, greedy_matches}
use Rattle.greedy.specs.LongerWait.{by_joining}
use Rattle.greedy.specs.Steps.{FromQueue, columns, running, unmarked, handing}
use Rattle.greedy.proofs.InOrder.{in_order}
use Rattle.greedy.proofs.Joining.{as_ordered}
use Rattle.greedy.proofs.Plain.{greedy_plain}
use Rattle.greedy.proofs.Rows.{length_joining, column_joining, turn_at_lem}
use Rattle.greedy.proofs.Seats.{greedy_room, greedy_count}

module _ (s : TeamComposition) (r : Roster) (queue : List QueueEntry) (n : ℕ) (players : List ℕ) (ratings rostered : List Float) (joined : List ℕ) (from : FromQueue r queue n players ratings rostered joined) (fits : n ≤ 64) where
  -- where the joined times never fall it may search them as they stand, place by place
  pub in_order_plain : never_fall (take n joined) ≡ true → {turns : List ℕ} → turns ≡ places_from 0 64 → (running s (columns (take n players) ratings rostered) turns n unmarked).matches ≡ greedy_matches s r queue
  in_order_plain rises {turns} come =
      let own : (i : ℕ) → i < n → get_or turns i 0 ≡ i = λ i h. let z : 0 + i ≡ i = omega arith in rw come (place_at 0 64 i (omega arith) ∙ z) in
      greedy_plain s r queue queue (in_order queue (ap never_fall (sym from.timed) ∙ rises)) (take n players) turns ratings rostered n
      from.whole from.whole fits (take-take n n players (omega arith) ∙ from.named) from.rated from.known
      (λ i h. (rw (own i h) h, ap (λ (p : ℕ). get_or queue p no_entry) (own i h)))

  -- else in the order of these places, with each anchor where it stands
  pub joining_plain : (places stands named : List ℕ) (rated known : List Float) → n ≤ length places → n ≤ length stands → take n places ≡ places_by_time (take n joined) → map (λ p. get_or places p 0) (take n stands) ≡ places_from 0 (length (take n joined)) → All (λ p. p < length (take n joined)) (take n stands) →
      take n named ≡ map (λ p. get_or players p 0) (take n places) → take n rated ≡ map (λ p. get_or ratings p nan) (take n places) → take n known ≡ map (λ p. get_or rostered p nan) (take n places) →
      (running s (columns (take n named) rated known) stands n unmarked).matches ≡ greedy_matches s r queue
  joining_plain places stands named rated known room space ordered found below ns rs ks =
      greedy_plain s r queue (by_joining queue) (as_ordered queue) (take n named) stands rated known n
      from.whole (from.whole ∙ sym (length_joining queue)) fits
      (take-take n n named (omega arith) ∙ ns ∙ arranged (λ e. e.player) 0 players from.named)
      (rs ∙ arranged (λ e. e.rating) nan ratings from.rated) (ks ∙ arranged (λ e. roster_rating r e.player) nan rostered from.known)
      (turn_at_lem queue n joined places stands from.whole from.timed room space ordered found below)
    where
      arranged : {A : Type 0} (f : QueueEntry → A) (d : A) (column : List A) → take n column ≡ map f queue → map (λ p. get_or column p d) (take n places) ≡ map f (by_joining queue)
      arranged = column_joining queue n joined places stands from.whole from.timed room space ordered found below

-- the queue's matches on the sheets are what the rule hands out where no joined time is over
pub handed_matches : (s : TeamComposition) (r : Roster) (queue : List QueueEntry) (sheets : Sheets) → length queue ≤ 64 → 64 ≤ length sheets.players → 64 ≤ length sheets.qualities → any joined_over queue ≡ false → {n : ℕ} {players : List ℕ} {qualities : List Float} → RatedOut r (greedy_matches s r queue) sheets.players sheets.qualities n players qualities →
    record { answer = gives n; sheets = record { players = players; qualities = qualities } } ≡ handing s r queue sheets
handed_matches s r queue sheets fits room space none out =
    let quality : MatchState → Float = λ m. quality_of r m.a.players m.b.players in
    let ms = greedy_matches s r queue in
    let wide : length (seats ms) ≤ length sheets.players = omega (arith, greedy_room s r queue, fits, room) in
    let long : length ms ≤ length sheets.qualities = omega (arith, greedy_count s r queue, fits, space) in
    handed_out_lem quality sheets ms out.count wide long out.seated refl out.rated ∙ ap (λ (o : Outcome (List MatchState)). handed_out quality o sheets) (in_time (gives ms) none)
