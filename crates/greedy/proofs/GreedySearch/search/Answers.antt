-- `greedy::search` meets its contract: the refusal of the first check, or what comes behind it.
use Prim.Native.Nat.{ℕ}
use mathlib.Core.Path.{◌≡◌, ap, ◌∙◌}
use mathlib.Core.Bool.{cond}
use mathlib.Core.List.{List}
use lib.Ieee.{Float}
use lib.ListN.{length}
use Rattle.std.specs.Prelude.{Result, Err}
use Rattle.base.specs.declared.Refusal.{Refusal}
use Rattle.base.specs.Lists.{any}
use Rattle.base.specs.Refusals.{Outcome, refused, gives}
use Rattle.queue.specs.Queue.{queue_of, joined_over}
use Rattle.roster.specs.Roster.{of_ratings}
use Rattle.matchmaker.specs.Quality.{MatchState, quality_of}
use Rattle.seating.specs.Seating.{Sheets, handed_out, leaving}
use Rattle.seating.proofs.Handing.{handed_refused, handed_on}
use Rattle.seating.proofs.Checked.{passed_first, behind_first}
use Rattle.greedy.specs.Greedy.{greedy_matches}
use borrow.Author.Rules.{rules}
use Rattle.greedy.proofs.GreedySearch.search.Goals as goal

pub returns-in_err-check_first : goal.returns-in_err-check_first
returns-in_err-check_first c =
    let a = c.args in
    let k = c.check_first in
    let r = of_ratings a.ids.now a.ratings.now in
    let quality : MatchState → Float = λ m. quality_of r m.a.players m.b.players in
    let sheets : Sheets = record { players = a.players.now; qualities = a.qualities.now } in
    let queue = (queue_of a.queue).entries in
    let found : Outcome (List MatchState) = gives (greedy_matches a.sizes r queue) in
    let all = ap (λ (o : Outcome (List MatchState)). handed_out quality o sheets) (behind_first a.sizes r (queue_of a.queue) (length a.players.now) (length a.qualities.now) found) in
    let told : c.from_residual.result ≡ Err c.in_err-check_first.field-0.0 = search rules in
    ap (λ (x : Result ℕ Refusal). leaving x a.players.now a.qualities.now) told
    ∙ handed_refused quality sheets (cond (any joined_over queue) (refused 4) found) k.result k.ensures c.in_err-check_first.was ∙ all

pub matches-requires : goal.matches-requires
matches-requires c =
    let k = c.check_first in
    let a = c.args in
    let h = passed_first a.sizes (of_ratings a.ids.now a.ratings.now) (queue_of a.queue) (length a.players.now) (length a.qualities.now) k.result c.in_ok-check_first.was k.ensures in
    record { a_bound = (h.a, (h.b, h.queue)); in_bounds = h.players_fit; in_bounds_2 = h.qualities_fit }

pub returns : goal.returns
returns c =
    let a = c.args in
    let k = c.check_first in
    let r = of_ratings a.ids.now a.ratings.now in
    let quality : MatchState → Float = λ m. quality_of r m.a.players m.b.players in
    let sheets : Sheets = record { players = a.players.now; qualities = a.qualities.now } in
    let queue = (queue_of a.queue).entries in
    let found : Outcome (List MatchState) = gives (greedy_matches a.sizes r queue) in
    let all = ap (λ (o : Outcome (List MatchState)). handed_out quality o sheets) (behind_first a.sizes r (queue_of a.queue) (length a.players.now) (length a.qualities.now) found) in
    handed_on quality sheets (cond (any joined_over queue) (refused 4) found) k.result k.ensures c.in_ok-check_first.was c.matches.ensures ∙ all
