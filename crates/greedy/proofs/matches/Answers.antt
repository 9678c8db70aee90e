-- The columns are read from the queue; in order of joining they are searched as they stand.
use mathlib.Core.Path.{◌≡◌, sym, ap, ◌∙◌}
use mathlib.Core.Bool.{true, false}
use mathlib.Core.List.{List, map, map-map}
use native.Mathlib.Omega.{arith}
use lib.Ieee.{Float}
use lib.ListN.{length, take, replicate, length-map}
use lib.Seq.{length-take-le}
use Rattle.base.specs.Floats as Floats
use Rattle.base.specs.Lists.{any}
use Rattle.base.specs.Refusals.{Outcome, gives}
use Rattle.base.proofs.Arrays.{unmapped}
use Rattle.base.proofs.Places.{places_below, take_places}
use Rattle.base.proofs.Sheets.{written_reads}
use Rattle.queue.specs.declared.QueueEntry.{QueueEntry}
use Rattle.queue.specs.Time.{time_over}
use Rattle.queue.specs.Queue.{queue_of, joined_over}
use Rattle.queue.proofs.Laws.{over_column}
use Rattle.roster.specs.Roster.{of_ratings}
use Rattle.matchmaker.specs.Quality.{MatchState, quality_of}
use Rattle.seating.specs.Seating.{Sheets, handed_out}
use Rattle.seating.proofs.Checked.{time_over_lem}
use Rattle.greedy.specs.Greedy.{roster_rating, greedy_matches}
use Rattle.greedy.specs.Steps.{FromQueue}
use Rattle.greedy.proofs.Columns.{in_order_plain, handed_matches}
use Rattle.greedy.proofs.Papers.{out_alike}
use borrow.Author.Rules.{rules}
use Rattle.greedy.proofs.matches.Goals as goal

pub returns-then-any_over : goal.returns-then-any_over
returns-then-any_over c =
    let a = c.args in
    let queue = (queue_of a.queue).entries in
    let r = of_ratings a.ids.now a.ratings.now in
    let quality : MatchState → Float = λ m. quality_of r m.a.players m.b.players in
    let sheets : Sheets = record { players = a.seats.now; qualities = a.qualities.now } in
    let over : any joined_over queue ≡ true = sym (c.any_over.ensures ∙ ap (any time_over) c.read.ensures.joined_after ∙ over_column queue) ∙ c.if-any_over.true in
    ap (λ (o : Outcome (List MatchState)). handed_out quality o sheets) (time_over_lem (gives (greedy_matches a.sizes r queue)) over)

pub match_all-requires : goal.match_all-requires
match_all-requires c =
    let n = c.args.queue.len in
    let fits = c.requires.a_bound.1.1 in
    let read = c.read.ensures in
    let come = c.as_they_come-turns.ensures in
    let v : length (take n c.read.new.players) ≡ n = length-take-le n c.read.new.players (search rules) in
    record { sizes_bound = (c.requires.a_bound.0, c.requires.a_bound.1.0); turns_bound = rw v (fits, rw (come, take_places 0 64 n fits) (places_below 0 n n (omega arith))); in_bounds = rw v (omega (arith, fits, c.requires.in_bounds_2)) }

pub returns-then-never_falls : goal.returns-then-never_falls
returns-then-never_falls c =
    let a = c.args in
    let q = c.args.queue in
    let n = c.args.queue.len in
    let queue = (queue_of q).entries in
    let fits = c.requires.a_bound.1.1 in
    let good = c.well_formed in
    let read = c.read.ensures in
    let l : length q.entries ≡ 64 = search (unmapped, good, rules) in
    let whole : n ≡ length queue = sym (length-take-le n q.entries (omega (arith, fits, l))) in
    let r = of_ratings a.ids.now a.ratings.now in
    let sheets : Sheets = record { players = a.seats.now; qualities = a.qualities.now } in
    let players = c.read.new.players in
    let many : n ≡ length (take n players) = whole ∙ sym (length-map queue (λ (e : QueueEntry). e.player)) ∙ sym (ap length read.players_after) in
    let known = written_reads (roster_rating r) (take n players) (replicate 64 Floats.zero) many fits c.write_values.ensures ∙ ap (map (roster_rating r)) read.players_after ∙ map-map (roster_rating r) (λ e. e.player) queue in
    let from : FromQueue r queue n players _ _ _ = record { whole = whole; named = read.players_after; rated = read.entered_after; known = known; timed = read.joined_after } in
    let none : any joined_over queue ≡ false = sym (c.any_over.ensures ∙ ap (any time_over) read.joined_after ∙ over_column queue) ∙ c.if-any_over.false in
    let rises = sym c.never_falls.ensures ∙ c.if-never_falls.true in
    let v : length (take n players) ≡ n = length-take-le n players (search rules) in
    let plain = in_order_plain a.sizes r queue n players _ _ _ from fits rises c.as_they_come-turns.ensures in
    handed_matches a.sizes r queue sheets (omega (arith, whole, fits)) c.requires.in_bounds c.requires.in_bounds_2 none (out_alike plain (rw v at c.match_all.ensures))

pub returns : goal.returns
returns c =
    let a = c.args in
    let q = c.args.queue in
    let n = c.args.queue.len in
    let queue = (queue_of q).entries in
    let fits = c.requires.a_bound.1.1 in
    let good = c.well_formed in
    let read = c.read.ensures in
    let l : length q.entries ≡ 64 = search (unmapped, good, rules) in
    let whole : n ≡ length queue = sym (length-take-le n q.entries (omega (arith, fits, l))) in
    let r = of_ratings a.ids.now a.ratings.now in
    let sheets : Sheets = record { players = a.seats.now; qualities = a.qualities.now } in
    let players = c.read.new.players in
    let many : n ≡ length (take n players) = whole ∙ sym (length-map queue (λ (e : QueueEntry). e.player)) ∙ sym (ap length read.players_after) in
    let known = written_reads (roster_rating r) (take n players) (replicate 64 Floats.zero) many fits c.write_values.ensures ∙ ap (map (roster_rating r)) read.players_after ∙ map-map (roster_rating r) (λ e. e.player) queue in
    let from : FromQueue r queue n players _ _ _ = record { whole = whole; named = read.players_after; rated = read.entered_after; known = known; timed = read.joined_after } in
    let none : any joined_over queue ≡ false = sym (c.any_over.ensures ∙ ap (any time_over) read.joined_after ∙ over_column queue) ∙ c.if-any_over.false in
    handed_matches a.sizes r queue sheets (omega (arith, whole, fits)) c.requires.in_bounds c.requires.in_bounds_2 none (c.match_by_joining.ensures queue from)
