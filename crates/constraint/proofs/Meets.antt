-- The laws of parties, ratings and regions: the rows of a party and the turns of a loop over them, the answers of each kind, and what bringing nothing,
-- an empty list of pairs and a pair turned round come to.
use Prim.Native.Nat.{ℕ, ◌+◌, ◌≤◌, ◌<◌}
use mathlib.Core.Path.{◌≡◌, refl, sym, ap, ◌∙◌}
use mathlib.Core.Bool.{Bool, true, false, not, ◌&&◌, or_comm, and-false}
use mathlib.Core.List.{List, [], ◌∷◌}
use native.Mathlib.Numerals.{add-one}
use borrow.Author.Tests.{not-true, not-false, ne_eqb}
use lib.Dec.{eqb}
use lib.ListN.{length, drop, get_or, drop_of_length-le}
use lib.Seq.{drop-cons}
use Rattle.std.specs.List.{zip}
use Rattle.base.proofs.Cases.{cases}
use Rattle.base.specs.Lists.{seek, every, member}
use Rattle.base.proofs.Members.{every_fails}
use Rattle.roster.specs.Roster.{Roster, party_of, region_of}
use Rattle.matchmaker.specs.Quality.{MatchState, seated}
use Rattle.constraint.specs.Constraints.{party_seated, party_together, parties_hold, allows, may_meet, pairs_of, constraints_hold}
use Rattle.constraint.specs.declared.regions.RegionPair.{RegionPair}
use Rattle.constraint.specs.declared.Constraints.{Constraints}

-- ---- parties

-- does a row, a player and a party, let this party be seated?
abbrev pub row_seated : List ℕ → ℕ → ℕ × ℕ → Bool
row_seated players party row = not (eqb row.1 party && not (member row.0 players))

-- a party is seated where every row of the two columns lets it be
pub seated_rows : (players : List ℕ) (party : ℕ) (ids parties : List ℕ) → every (row_seated players party) (zip ids parties) ≡ party_seated ids parties players party
unfolding seek party_seated
seated_rows players party [] parties = refl
seated_rows players party (id ∷ ids) [] = refl
seated_rows players party (id ∷ ids) (p ∷ parties) =
    cases (eqb p party && not (member id players)) (λ t. rw t) (λ f. rw f (seated_rows players party ids parties))

-- a party without rows is seated
no_rows : (players : List ℕ) (party : ℕ) (ids : List ℕ) → party_seated ids [] players party ≡ true
unfolding party_seated
no_rows players party [] = refl
no_rows players party (id ∷ ids) = refl

module _ (players : List ℕ) (party : ℕ) (ids parties : List ℕ) (i : ℕ) (inv : party_seated ids parties players party ≡ party_seated (drop i ids) (drop i parties) players party) where
  -- no id is left
  pub seated_end : length ids ≤ i → true ≡ party_seated ids parties players party
  unfolding party_seated
  seated_end h = sym (inv ∙ rw (drop_of_length-le ids h))

  -- no party is left
  pub seated_short : length parties ≤ i → true ≡ party_seated ids parties players party
  seated_short h = sym (inv ∙ rw (drop_of_length-le parties h) (no_rows players party (drop i ids)))

  module _ (h : i < length ids) (k : i < length parties) where
    -- the row at i is of the party, and its player is not among them
    pub seated_not : not (eqb (get_or parties i 0) party && not (member (get_or ids i 0) players)) ≡ false → false ≡ party_seated ids parties players party
    unfolding party_seated
    seated_not e = sym (inv ∙ rw (drop-cons ids i 0 h, drop-cons parties i 0 k, not-false (eqb (get_or parties i 0) party && not (member (get_or ids i 0) players)) e))

    -- the row at i passes: the rest decides
    pub seated_on : not (eqb (get_or parties i 0) party && not (member (get_or ids i 0) players)) ≡ true → party_seated ids parties players party ≡ party_seated (drop (i + 1) ids) (drop (i + 1) parties) players party
    unfolding party_seated
    seated_on e = inv ∙ rw (drop-cons ids i 0 h, drop-cons parties i 0 k, not-true (eqb (get_or parties i 0) party && not (member (get_or ids i 0) players)) e, add-one i)

-- parties hold exactly where everyone on a list of those seated has the whole party on that list
pub parties_read : (r : Roster) (m : MatchState) (everyone : List ℕ) → everyone ≡ seated m → every (λ player. party_together r everyone (party_of r player)) everyone ≡ parties_hold r m
parties_read r m everyone e = ap (λ (players : List ℕ). every (λ player. party_together r players (party_of r player)) players) e

-- ---- what the constraints come to

-- where nothing is brought, every match will do
pub nothing_brought : (r : Roster) (c : Constraints) (m : MatchState) → c.brought.sizes ≡ false → c.brought.roles ≡ false → c.brought.parties ≡ false → c.brought.latency ≡ false → c.brought.regions ≡ false → constraints_hold r c m ≡ true
nothing_brought r c m s o p l g = rw (s, o, p, l, g)

-- a pair allows its regions either way round
pub allows_turned : (x y : ℕ) (p : RegionPair) → allows x y p ≡ allows y x p
allows_turned x y p = or_comm (eqb p.first x && eqb p.second y) (eqb p.first y && eqb p.second x)

-- without pairs, two regions on record may not meet
pub barred : (x y : ℕ) → (x ≡ 4 → ⊥) → (y ≡ 4 → ⊥) → may_meet [] x y ≡ false
unfolding seek
barred x y h k = rw (ne_eqb x 4 h, ne_eqb y 4 k)

-- where regions are brought without pairs, no match will do that has a region on record in each team
pub none_meet : (r : Roster) (c : Constraints) (m : MatchState) (p q : ℕ) → c.brought.regions ≡ true → pairs_of c.regions ≡ [] → member p m.a.players ≡ true → member q m.b.players ≡ true → (region_of r p ≡ 4 → ⊥) → (region_of r q ≡ 4 → ⊥) → constraints_hold r c m ≡ false
none_meet r c m p q b e h k i j =
    let f = every_fails (λ y. may_meet [] (region_of r p) (region_of r y)) q m.b.players k (barred (region_of r p) (region_of r q) i j) in
    let g = every_fails (λ x. every (λ y. may_meet [] (region_of r x) (region_of r y)) m.b.players) p m.a.players h f in
    rw (b, e, g) (simp and-false)

-- the constraints read no deviation: rosters that agree in the other columns give the same
pub deviations_unread : (r s : Roster) → r.ids ≡ s.ids → r.ratings ≡ s.ratings → r.parties ≡ s.parties → r.roles ≡ s.roles → r.regions ≡ s.regions → (c : Constraints) (m : MatchState) → constraints_hold r c m ≡ constraints_hold s c m
deviations_unread r s i k p o g c m = rw (i, k, p, o, g)
