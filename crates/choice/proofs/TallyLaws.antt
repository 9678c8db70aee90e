-- The tally grows with a choice, and tells at the last seat whether the constraints hold.
use Prim.Native.Nat.{ℕ, ◌+◌, ◌≤◌, ◌<◌}
use mathlib.Core.Path.{◌≡◌, refl, sym, ap, ◌∙◌}
use mathlib.Core.Bool.{Bool, true, false, not, cond, ◌&&◌, ◌||◌, and-true, and-false, and_comm, not-not}
use mathlib.Core.List.{List, [], ◌∷◌, ◌++◌, map, append-nil, append_assoc}
use native.Mathlib.Omega.{arith}
use borrow.Author.Tests.{lt-ltb, ltb-true, ltb-false}
use lib.Bits.{bit_and, bit_or}
use lib.Dec.{eqb, ltb}
use lib.ListN.{length, get_or, length-append}
use Rattle.base.specs.Lists.{seek, any, every, keep, member, Within}
use Rattle.base.specs.Refusals.{gives}
use Rattle.std.specs.Prelude.{Ok}
use Rattle.base.proofs.Cases.{cases}
use Rattle.base.proofs.Every.{every_alike, every_more, any_more, every_passes, none_passes, every_both}
use Rattle.base.proofs.Members.{eqb_sym, Distinct-of, within_append}
use Rattle.queue.specs.declared.QueueEntry.{QueueEntry}
use Rattle.roster.specs.Roster.{Roster, rules_check, rating_of, region_of}
use Rattle.roster.proofs.Laws.{passed_distinct}
use Rattle.matchmaker.specs.Quality.{MatchState, seated}
use Rattle.seating.specs.declared.TeamComposition.{TeamComposition}
use Rattle.seating.specs.Seating.{seats_of, team, lineup}
use Rattle.candidate.specs.Walks.{seated_next}
use Rattle.constraint.specs.declared.Constraints.{Constraints}
use Rattle.constraint.specs.declared.roles.RoleRequirement.{RoleRequirement}
use Rattle.constraint.specs.declared.regions.RegionPair.{RegionPair}
use Rattle.constraint.specs.Constraints.{has_role, role_count, requirement_holds, requirements_of, roles_hold, sizes_hold, party_together, above_zero, latency_holds, may_meet, pairs_of, regions_hold, constraints_hold}
use Rattle.constraint.proofs.RoleLaws.{role_count_append}
use Rattle.choice.specs.Friends.{friends_seated}
use Rattle.choice.specs.Reading.{marks, packed, players_of, party_in, admitted, wants, expects, bars, required, counts_for, bounds_of, in_limits, Columns, Says}
use Rattle.choice.specs.Sums.{Summing}
use Rattle.choice.specs.Tallies.{sizes_fit, no_tally, tally_with, fits, Tallying}
use Rattle.choice.specs.declared.Sums.{Sums}
use Rattle.choice.specs.declared.tally.Bounds.{Bounds}
use Rattle.choice.specs.declared.tally.Tally.{Tally}
use Rattle.choice.proofs.Gathered.{parties_told}
use Rattle.choice.proofs.Invited.{expected_told}
use Rattle.choice.proofs.MarkLaws.{marks_never, marks_map, marks_alike, marks_or, marks_inside, marks_at}
use Rattle.choice.proofs.CountLaws.{packed_add, limits_hold}

-- ---- nobody is seated

-- counts of nobody
packed_none : {A : Type 0} (qs : List A) → packed (map (λ q. 0) qs) ≡ 0
unfolding packed
packed_none [] = refl
packed_none (q ∷ qs) = rw (packed_none qs)

module _ (r : Roster) (c : Constraints) (on : Bool) (s : TeamComposition) (es : List QueueEntry) where
  -- a match without players has the tally that says nothing
  tally_none : Tallying r c on s es (lineup [] []) (no_tally (sizes_fit c s))
  unfolding seek keep
  tally_none =
      record {
        lined = refl;
        among = tt;
        fine = sym (and-true (sizes_fit c s));
        counts = sym (packed_none (required c));
        present = sym (marks_never (players_of es));
        wanted = sym (marks_never es);
        barred = sym (marks_never (players_of es));
      }

  -- what the calls made of nobody starts a tally
  pub tally_start : {t : Tally} {m : MatchState} → m ≡ lineup [] [] → t ≡ no_tally (sizes_fit c s) → Tallying r c on s es m t
  tally_start e f = rw (e, f) tally_none

-- ---- one more player

-- one more of the role, or not
role_count_more : (r : Roster) (role : ℕ) (ps : List ℕ) (p : ℕ) → role_count r role (ps ++ (p ∷ [])) ≡ role_count r role ps + cond (has_role r role p) 1 0
unfolding keep
role_count_more r role ps p =
    role_count_append r role ps (p ∷ []) ∙ ap (λ (n : ℕ). role_count r role ps + n) (cases (has_role r role p) (λ t. rw t) (λ f. rw f))

-- those who were seated, and these with one more
module _ (r : Roster) (c : Constraints) (queue : List ℕ) (p : ℕ) (ps with : List ℕ) (e : with ≡ ps ++ (p ∷ [])) where
  -- they all wait
  among_more : member p queue ≡ true → Within ps queue → Within with queue
  among_more h w = rw e (within_append ps (p ∷ []) queue w (h, tt))

  -- they may all be seated where the others may and the player may
  admitted_more : every (admitted r c queue) with ≡ (every (admitted r c queue) ps && admitted r c queue p)
  admitted_more = rw e (every_more (admitted r c queue) ps p)

  -- their counts are the others' and the player's
  counts_more : {n k : ℕ} → n ≡ packed (map (λ (q : RoleRequirement). role_count r q.role ps) (required c)) → k ≡ packed (map (counts_for r p) (required c))
      → n + k ≡ packed (map (λ (q : RoleRequirement). role_count r q.role with) (required c))
  counts_more a b =
      let g : (q : RoleRequirement) → role_count r q.role ps + counts_for r p q ≡ role_count r q.role with = λ q. rw e (sym (role_count_more r q.role ps p)) in
      rw (a, b) (packed_add (λ (q : RoleRequirement). role_count r q.role ps) (counts_for r p) (required c))
      ∙ ap (λ (f : RoleRequirement → ℕ). packed (map f (required c))) (λ j q. g q j)

  -- their places are the others' and the player's
  present_more : {n k : ℕ} → n ≡ marks (λ q. member q ps) queue → k ≡ marks (λ q. eqb q p) queue → bit_or n k ≡ marks (λ q. member q with) queue
  present_more a b =
      rw (a, b) (marks_or (λ q. member q ps) (λ q. eqb q p) queue)
      ∙ marks_alike (λ q. member q ps || eqb q p) (λ q. member q with)
      (λ q. ap (λ (b : Bool). member q ps || b) (eqb_sym q p) ∙ rw e (sym (any_more (λ x. eqb x q) ps p))) queue

  -- whom a test holds of with one of them it holds of with one of the others or with the player
  either_more : {A : Type 0} (f : ℕ → A → Bool) (xs : List A) {n k : ℕ} → n ≡ marks (λ a. any (λ x. f x a) ps) xs → k ≡ marks (f p) xs → bit_or n k ≡ marks (λ a. any (λ x. f x a) with) xs
  either_more f xs a b =
      rw (a, b) (marks_or (λ y. any (λ x. f x y) ps) (f p) xs)
      ∙ marks_alike (λ y. any (λ x. f x y) ps || f p y) (λ y. any (λ x. f x y) with) (λ y. rw e (sym (any_more (λ x. f x y) ps p))) xs

module _ (r : Roster) (c : Constraints) where
  -- may everyone of A play against everyone of B?
  abbrev meet : List ℕ → List ℕ → Bool
  meet us vs = every (λ u. every (λ v. not (bars r c u v)) vs) us

  -- where nobody is in B, they may
  meet_nobody : (us vs : List ℕ) → vs ≡ [] → meet us vs ≡ true
  unfolding seek
  meet_nobody us vs e = rw e (every_passes (λ u. true) (λ u. refl) us)

  -- they may, with one more in B, where they might before and nobody of A bars the player
  meet_more : (us vs : List ℕ) (p : ℕ) → meet us (vs ++ (p ∷ [])) ≡ (meet us vs && not (any (λ u. bars r c u p) us))
  meet_more us vs p =
      every_alike (λ u. every (λ v. not (bars r c u v)) (vs ++ (p ∷ []))) (λ u. every (λ v. not (bars r c u v)) vs && not (bars r c u p)) (λ u. every_more (λ v. not (bars r c u v)) vs p) us
      ∙ every_both (λ u. every (λ v. not (bars r c u v)) vs) (λ u. not (bars r c u p)) us
      ∙ ap (λ (b : Bool). meet us vs && b) (sym (none_passes (λ u. bars r c u p) us))

module _ (r : Roster) (c : Constraints) (queue : List ℕ) where
  -- a player who waits is free to join B where nobody of A bars the player
  barred_at : (us : List ℕ) (p : ℕ) {n k : ℕ} → member p queue ≡ true → n ≡ marks (λ q. any (λ u. bars r c u q) us) queue → k ≡ marks (λ q. eqb q p) queue → eqb (bit_and n k) 0 ≡ not (any (λ u. bars r c u p) us)
  barred_at us p h a b = rw (a, b) (marks_at (λ q. any (λ u. bars r c u q) us) p queue h)

-- the same tests in another order
fine_order : (s a x p y : Bool) → ((s && (a && x)) && (p && y)) ≡ (s && ((a && p) && (x && y)))
fine_order false a x p y = refl
fine_order true false x p y = refl
fine_order true true false p y = sym (and-false p)
fine_order true true true p y = refl

module _ (r : Roster) (c : Constraints) (s : TeamComposition) (queue us vs : List ℕ) (p : ℕ) {old admits : Bool} (was : old ≡ (sizes_fit c s && (every (admitted r c queue) (us ++ vs) && meet r c us vs))) (is : admits ≡ admitted r c queue p) where
  -- all is fine with one more in A, while nobody is in B, where the player may be seated
  fine_a : (with : List ℕ) → with ≡ (us ++ vs) ++ (p ∷ []) → vs ≡ [] → (old && (admits && true)) ≡ (sizes_fit c s && (every (admitted r c queue) with && meet r c (us ++ (p ∷ [])) vs))
  fine_a with e n =
      rw (was, is, meet_nobody r c us vs n, meet_nobody r c (us ++ (p ∷ [])) vs n, admitted_more r c queue p (us ++ vs) with e)
      (fine_order (sizes_fit c s) (every (admitted r c queue) (us ++ vs)) true (admitted r c queue p) true)

  -- and with one more in B, where the player may be seated and is not barred
  fine_b : (with : List ℕ) → with ≡ (us ++ vs) ++ (p ∷ []) → {free : Bool} → free ≡ not (any (λ u. bars r c u p) us) → (old && (admits && free)) ≡ (sizes_fit c s && (every (admitted r c queue) with && meet r c us (vs ++ (p ∷ []))))
  fine_b with e g =
      rw (was, is, g, meet_more r c us vs p, admitted_more r c queue p (us ++ vs) with e)
      (fine_order (sizes_fit c s) (every (admitted r c queue) (us ++ vs)) (meet r c us vs) (admitted r c queue p) (not (any (λ u. bars r c u p) us)))

module _ (r : Roster) (c : Constraints) (on : Bool) (s : TeamComposition) (es : List QueueEntry) (m : MatchState) (t : Tally) (x : Sums) (p : ℕ) (cols : Columns) (i : ℕ) (tells : Tallying r c on s es m t) (fills : Summing r s m x) (a : s.a ≤ 8) (b : s.b ≤ 8)
    (h : length (seated m) < seats_of s) (waits : member p (players_of es) ≡ true) (says : Says r c on es cols i p) where
  -- the tally with one more player is that of the match with the player
  pub tally_next : Tallying r c on s es (seated_next s m p) (tally_with t (ltb (length m.a.players) s.a) (get_or cols.admits i false) (get_or cols.counts i 0) (get_or cols.same i 0) (get_or cols.expected i 0) (get_or cols.foes i 0))
  unfolding seated_next tally_with
  tally_next =
      let queue = players_of es in
      let us = m.a.players in
      let vs = m.b.players in
      let l = length-append m.a.players m.b.players in
      cases (ltb (length m.a.players) s.a)
      (λ y.
      let k : length m.a.players < s.a = ltb-true (length m.a.players) s.a y in
      let n : m.b.players ≡ [] = rw y at fills.order in
      let e : (m.a.players ++ (p ∷ [])) ++ m.b.players ≡ (m.a.players ++ m.b.players) ++ (p ∷ []) = rw (n, append-nil m.a.players) (append-nil (m.a.players ++ (p ∷ []))) in
      rw (y, lt-ltb (length m.a.players) 8 (omega arith))
      (record {
        lined = λ j. record { a = team (m.a.players ++ (p ∷ [])); b = (tells.lined j).b };
        among = among_more r c queue p (us ++ vs) ((us ++ (p ∷ [])) ++ vs) e waits tells.among;
        fine = fine_a r c s queue us vs p tells.fine says.admits ((us ++ (p ∷ [])) ++ vs) e n;
        counts = counts_more r c queue p (us ++ vs) ((us ++ (p ∷ [])) ++ vs) e tells.counts says.counts;
        present = present_more r c queue p (us ++ vs) ((us ++ (p ∷ [])) ++ vs) e tells.present says.same;
        wanted = either_more r c queue p (us ++ vs) ((us ++ (p ∷ [])) ++ vs) e (expects r c on es) es tells.wanted says.expected;
        barred = either_more r c queue p us (us ++ (p ∷ [])) refl (bars r c) queue tells.barred says.foes;
      }))
      (λ f.
      let k : s.a ≤ length m.a.players = ltb-false (length m.a.players) s.a f in
      let e : us ++ (vs ++ (p ∷ [])) ≡ (us ++ vs) ++ (p ∷ []) = sym (append_assoc us vs (p ∷ [])) in
      rw (f, lt-ltb (length m.b.players) 8 (omega (arith, l, fills.room)))
      (record {
        lined = λ j. record { a = (tells.lined j).a; b = team (m.b.players ++ (p ∷ [])) };
        among = among_more r c queue p (us ++ vs) (us ++ (vs ++ (p ∷ []))) e waits tells.among;
        fine = fine_b r c s queue us vs p tells.fine says.admits (us ++ (vs ++ (p ∷ []))) e (barred_at r c queue us p waits tells.barred says.same);
        counts = counts_more r c queue p (us ++ vs) (us ++ (vs ++ (p ∷ []))) e tells.counts says.counts;
        present = present_more r c queue p (us ++ vs) (us ++ (vs ++ (p ∷ []))) e tells.present says.same;
        wanted = either_more r c queue p (us ++ vs) (us ++ (vs ++ (p ∷ []))) e (expects r c on es) es tells.wanted says.expected;
        barred = tells.barred;
      }))

  -- and so is what the calls made of it that of what they made of the match
  pub tally_with_lem : {first : Bool} {with : MatchState} {next : Tally} → first ≡ ltb (length m.a.players) s.a → with ≡ seated_next s m p
      → next ≡ tally_with t first (get_or cols.admits i false) (get_or cols.counts i 0) (get_or cols.same i 0) (get_or cols.expected i 0) (get_or cols.foes i 0) → Tallying r c on s es with next
  tally_with_lem e f g = rw (f, g, e) tally_next

-- ---- the other constraints, if they are brought

module _ (r : Roster) where
  -- ratings hold where nobody's fails
  ratings_told : (on : Bool) (ps : List ℕ) → every (λ p. not on || above_zero (rating_of r p)) ps ≡ (not on || every (λ p. above_zero (rating_of r p)) ps)
  ratings_told true ps = refl
  ratings_told false ps = every_passes (λ (p : ℕ). true) (λ p. refl) ps

  -- roles hold where the requirements that are brought do
  roles_told : (on : Bool) (qs : List RoleRequirement) (ps : List ℕ) → every (requirement_holds r ps) (cond on qs []) ≡ (not on || every (requirement_holds r ps) qs)
  unfolding seek
  roles_told true qs ps = refl
  roles_told false qs ps = refl

  -- regions hold where nobody is barred from playing against another
  regions_told : (on : Bool) (pairs : List RegionPair) (us vs : List ℕ)
      → every (λ u. every (λ v. not (not (may_meet pairs (cond on (region_of r u) 4) (cond on (region_of r v) 4)))) vs) us ≡ (not on || every (λ u. every (λ v. may_meet pairs (region_of r u) (region_of r v)) vs) us)
  regions_told true pairs us vs =
      ap (λ (f : ℕ → ℕ → Bool). every (λ u. every (f u) vs) us) (λ j u v. not-not (may_meet pairs (region_of r u) (region_of r v)) j)
  regions_told false pairs us vs =
      every_passes (λ (u : ℕ). every (λ (v : ℕ). true) vs) (λ u. every_passes (λ (v : ℕ). true) (λ v. refl) vs) us

-- ---- at the last seat

-- the same tests in another order, two of them as one
five_order : (s a p x w l : Bool) → ((s && ((a && p) && x)) && (w && l)) ≡ (s && (l && ((p && w) && (a && x))))
five_order false a p x w l = refl
five_order true false p x w l = sym (ap (λ (b : Bool). l && b) (and-false (p && w)) ∙ and-false l)
five_order true true false x w l = sym (and-false l)
five_order true true true false w l = sym (ap (λ (b : Bool). l && b) (and-false w) ∙ and-false l)
five_order true true true true w l = and_comm w l ∙ ap (λ (b : Bool). l && b) (sym (and-true w))

-- and one more of them behind the others
last_order : (s a p x w v l : Bool) → ((s && ((a && p) && x)) && ((w && v) && l)) ≡ ((s && (l && ((p && w) && (a && x)))) && v)
last_order s a p x w true l =
    ap (λ (b : Bool). (s && ((a && p) && x)) && (b && l)) (and-true w) ∙ five_order s a p x w l ∙ sym (and-true (s && (l && ((p && w) && (a && x)))))
last_order s a p x w false l =
    ap (λ (b : Bool). (s && ((a && p) && x)) && (b && l)) (and-false w)
    ∙ and-false (s && ((a && p) && x))
    ∙ sym (and-false (s && (l && ((p && w) && (a && x)))))

module _ (r : Roster) (c : Constraints) (on : Bool) (s : TeamComposition) (es : List QueueEntry) (m : MatchState) (t : Tally) (tells : Tallying r c on s es m t) (a : length m.a.players ≡ s.a) (b : length m.b.players ≡ s.b) where
  -- the sizes of a full match are those of the table
  sizes_told : sizes_fit c s ≡ (not c.brought.sizes || sizes_hold c.sizes m)
  sizes_told =
      let x : m.a.size ≡ s.a = ap (λ (n : MatchState). n.a.size) tells.lined ∙ a in
      let y : m.b.size ≡ s.b = ap (λ (n : MatchState). n.b.size) tells.lined ∙ b in
      rw (x, y)

  -- all is fine where sizes, ratings and regions hold and the rows of the parties wait
  fine_told : t.fine ≡ ((not c.brought.sizes || sizes_hold c.sizes m) && (((not c.brought.latency || latency_holds r m) && every (λ p. party_together r (players_of es) (party_in r c p)) (seated m)) && (not c.brought.regions || regions_hold r c.regions m)))
  fine_told =
      rw (
        tells.fine,
        every_both (λ p. not c.brought.latency || above_zero (rating_of r p)) (λ p. party_together r (players_of es) (party_in r c p)) (seated m),
        sizes_told,
        ratings_told r c.brought.latency (seated m),
        regions_told r c.brought.regions (pairs_of c.regions) m.a.players m.b.players,
      )

  -- the counts are within their limits where the roles hold
  roles_limited : s.a ≤ 8 → s.b ≤ 8 → {bounds : Bounds} → bounds ≡ bounds_of (required c) → in_limits bounds.asked t.counts bounds.least bounds.most ≡ (not c.brought.roles || roles_hold r c.roles m)
  roles_limited x y e =
      rw (e, tells.counts) (limits_hold r (required c) (seated m) (omega (arith, length-append m.a.players m.b.players)))
      ∙ roles_told r c.brought.roles (requirements_of c.roles) (seated m)

  -- the tally of a full match tells whether the constraints hold and, if they are brought, all friends who wait are seated
  pub tally_fits : rules_check r ≡ gives tt → s.a ≤ 8 → s.b ≤ 8 → {bounds : Bounds} → bounds ≡ bounds_of (required c) → fits bounds t ≡ (constraints_hold r c m && (not on || friends_seated es m))
  unfolding fits
  tally_fits checked x y e =
      let d = Distinct-of r.ids (passed_distinct r.ids (length r.ratings ∷ length r.parties ∷ length r.roles ∷ length r.regions ∷ []) r.regions (Ok tt) refl (sym checked)) in
      let queue = players_of es in
      let w = every (λ q. not (any (λ p. wants r c p q) (seated m)) || member q (seated m)) queue in
      let g : eqb (bit_and t.wanted t.present) t.wanted ≡ (w && (not on || friends_seated es m)) =
      rw (tells.wanted, tells.present, marks_map (λ q. member q (seated m)) (λ (e : QueueEntry). e.player) es)
      (marks_inside (λ e. any (λ p. expects r c on es p e) (seated m)) (λ e. member e.player (seated m)) es)
      ∙ expected_told es (seated m) (wants r c) on in
      rw (fine_told, g, roles_limited x y e, ← parties_told r queue (seated m) d tells.among c.brought.parties)
      (last_order (not c.brought.sizes || sizes_hold c.sizes m) (not c.brought.latency || latency_holds r m) (every (λ p. party_together r queue (party_in r c p)) (seated m)) (not c.brought.regions || regions_hold r c.regions m) w (not on || friends_seated es m) (not c.brought.roles || roles_hold r c.roles m))
