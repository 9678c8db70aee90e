-- The columns that are read stand for the roster and the constraints, so the walk over them weighs every choice.
use Prim.Native.Nat.{ℕ, ◌≤◌}
use mathlib.Core.Path.{◌≡◌, sym, ap, ◌∙◌}
use mathlib.Core.Bool.{Bool, false, not, ◌&&◌}
use mathlib.Core.List.{List, [], map}
use Rattle.std.specs.Prelude.{is_some, unwrap_or}
use native.Mathlib.Omega.{arith}
use borrow.Author.Rules.{rules}
use lib.Dec.{eqb}
use lib.Ieee.{Float}
use lib.ListN.{length, take, replicate, length-map}
use lib.Seq.{length-take-le}
use Rattle.base.specs.Floats as Floats
use Rattle.base.proofs.Arrays.{unmapped, take_map}
use Rattle.base.proofs.Sheets.{written_reads}
use Rattle.queue.specs.declared.QueueEntry.{QueueEntry}
use Rattle.roster.specs.Roster.{of_rules, rating_of}
use Rattle.matchmaker.specs.Quality.{MatchState, seated}
use Rattle.seating.specs.Seating.{seats_of, lineup}
use Rattle.candidate.specs.Walks.{through}
use Rattle.constraint.specs.declared.roles.RoleRequirement.{RoleRequirement}
use Rattle.constraint.specs.Constraints.{may_meet, pairs_of}
use Rattle.candidate.proofs.Walking.{ways_small}
use Rattle.choice.specs.Reading.{packed, players_of, party_in, region_in, counts_for, bounds_of}
use Rattle.choice.specs.Full.{terms}
use Rattle.choice.specs.Steps.{SoFar, so_far_of, unweighed, weighed}
use Rattle.choice.specs.declared.tally.Tally.{Tally}
use Rattle.choice.proofs.Checking.{held}
use Rattle.choice.proofs.Summing.{filling_start}
use Rattle.choice.proofs.TallyLaws.{tally_start}
use Rattle.choice.proofs.Standing.{pairs_read, stand}
use Rattle.choice.proofs.best_of.Goals as goal

pub overflow_add-sizes : goal.overflow_add-sizes
overflow_add-sizes c =
    let ids = c.players-queued.result in
    let w : length c.args.queue.entries ≡ 64 = search (unmapped, rules, c.well_formed.0) in
    let l : length ids ≡ 64 = ap length c.players-queued.ensures ∙ length-map c.args.queue.entries _ ∙ w in
    let z = held (of_rules c.args.ids.now c.args.ratings.now c.args.parties.now c.args.roles.now c.args.regions.now) c.args.constraints c.args.count c.args.sizes c.args.queue.entries c.args.queue.len w c.requires in
    omega (arith, z.a, z.b)

pub walk-requires : goal.walk-requires
walk-requires c =
    let ids = c.players-queued.result in
    let w : length c.args.queue.entries ≡ 64 = search (unmapped, rules, c.well_formed.0) in
    let l : length ids ≡ 64 = ap length c.players-queued.ensures ∙ length-map c.args.queue.entries _ ∙ w in
    let z = held (of_rules c.args.ids.now c.args.ratings.now c.args.parties.now c.args.roles.now c.args.regions.now) c.args.constraints c.args.count c.args.sizes c.args.queue.entries c.args.queue.len w c.requires in
    let e = ap (λ (m : MatchState). length (seated m)) c.nobody.ensures in
    let u = ap (λ (b : SoFar). b.tried) c.untried.ensures in
    let t = ap (λ (y : Tally). y.counts) c.begun.ensures in
    let v = ways_small c.args.queue.len (seats_of c.args.sizes) z.few in
    record { a_bound = (z.a, (z.b, (omega (arith, z.few), omega (arith, e)))); queued_len = l; left_bound = omega (arith, u, v); one_each_bound = (omega (arith, t, z.a, z.b), c.counts_of-counts.ensures.1) }

pub returns : goal.returns
returns c =
    let ids = c.players-queued.result in
    let w : length c.args.queue.entries ≡ 64 = search (unmapped, rules, c.well_formed.0) in
    let l : length ids ≡ 64 = ap length c.players-queued.ensures ∙ length-map c.args.queue.entries _ ∙ w in
    let z = held (of_rules c.args.ids.now c.args.ratings.now c.args.parties.now c.args.roles.now c.args.regions.now) c.args.constraints c.args.count c.args.sizes c.args.queue.entries c.args.queue.len w c.requires in
    let n = c.args.queue.len in
    let r = of_rules c.args.ids.now c.args.ratings.now c.args.parties.now c.args.roles.now c.args.regions.now in
    let k = c.args.constraints in
    let es = take n c.args.queue.entries in
    let queue = take n ids in
    let on = c.args.friends in
    let fits : n ≤ length ids = omega (arith, z.few, l) in
    let many : n ≡ length queue = sym (length-take-le n ids fits) in
    let known : ℕ → Bool = λ p. is_some (rating_of r p) in
    let rating : ℕ → Float = λ p. unwrap_or (rating_of r p) Floats.zero in
    let numbered : n ≡ length es = sym (length-take-le n c.args.queue.entries (omega (arith, z.few, w))) in
    let names : queue ≡ players_of es = ap (take n) c.players-queued.ensures ∙ take_map (λ (e : QueueEntry). e.player) n c.args.queue.entries in
    let wide : length c.parties_of-party.result ≡ 64 = search rules in
    let broad : length c.regions_of-region.result ≡ 64 = search rules in
    let parties : length (take n c.parties_of-party.result) ≡ n = length-take-le n c.parties_of-party.result (omega (arith, z.few, wide)) in
    let regions : length (take n c.regions_of-region.result) ≡ n = length-take-le n c.regions_of-region.result (omega (arith, z.few, broad)) in
    let stands = stand r k on n es _ fits numbered names c.partners_of-partners.result z.checked (c.bounds_of.ensures ∙ ap bounds_of c.required-required.ensures)
    (written_reads known queue (replicate 64 false) many (omega (arith, z.few)) c.write_known.ensures)
    (written_reads rating queue (replicate 64 Floats.zero) many (omega (arith, z.few)) c.write_values.ensures)
    (rw (sym many) at c.admits_of-admits.ensures)
    ((rw (sym many) at c.counts_of-counts.ensures.0) ∙ ap (λ (qs : List RoleRequirement). map (λ p. packed (map (counts_for r p) qs)) queue) c.required-required.ensures)
    (rw (sym many) at c.same_of-same.ensures)
    ((rw parties at c.partners_of-partners.ensures) ∙ pairs_read (λ p q. not (eqb p 0) && eqb q p) (party_in r k) queue (rw (sym many) at c.parties_of-party.ensures))
    c.with_waiting-expected.ensures
    ((rw regions at c.foes_of-foes.ensures) ∙ pairs_read (λ a b. not (may_meet (pairs_of k.regions) a b)) (region_in r k) queue (rw (sym many) at c.regions_of-region.ensures)) in
    let step = weighed (terms r k on c.args.objectives c.args.count) es in
    let seats = seats_of c.args.sizes in
    c.walk.ensures.1 r k on es (omega (arith, numbered)) stands (filling_start r c.args.sizes c.nobody.ensures c.unsummed.ensures) (tally_start r k on c.args.sizes es c.nobody.ensures c.begun.ensures)
    ∙ ap (λ (m : MatchState). through c.args.sizes step m seats queue (so_far_of c.untried.result)) c.nobody.ensures
    ∙ ap (λ (b : SoFar). through c.args.sizes step (lineup [] []) seats queue b) c.untried.ensures
    ∙ ap (λ (ps : List ℕ). through c.args.sizes step (lineup [] []) seats (take n ps) unweighed) c.players-queued.ensures
