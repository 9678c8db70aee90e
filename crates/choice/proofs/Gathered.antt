-- Parties sit together exactly where their rows wait and everyone who waits and is of the party of somebody seated is seated.
use Prim.Native.Nat.{ℕ}
use mathlib.Core.Path.{◌≡◌, refl, sym, ap}
use mathlib.Core.Bool.{Bool, true, false, not, cond, ◌&&◌, ◌||◌}
use mathlib.Core.List.{List, [], ◌∷◌}
use Rattle.std.specs.Prelude.{Option, None, Some, unwrap_or}
use borrow.Author.Tests.{eqb-true, eq-eqb, not-true}
use lib.Dec.{eqb}
use Rattle.base.specs.Lists.{any, every, member, Distinct, Within}
use Rattle.base.proofs.Cases.{cases, never}
use Rattle.base.proofs.Checks.{both_hold}
use Rattle.base.proofs.Every.{same_truth, so_holds, holds_so, every_passes, any_never, every_of, any_of, every_so, any_so}
use Rattle.base.proofs.Members.{member_within}
use Rattle.roster.specs.Roster.{Roster, observe, party_of}
use Rattle.roster.proofs.Laws.{observe_absent}
use Rattle.constraint.specs.Constraints.{party_seated, party_together}

-- ---- rows

module _ (k : ℕ) where
  -- where every row of a party is among some, each of its players is
  row_among : (ids parties ps : List ℕ) (q : ℕ) → party_seated ids parties ps k ≡ true → observe ids parties q ≡ Some k → member q ps ≡ true
  unfolding party_seated observe
  row_among [] parties ps q h e = never cc
  row_among (id ∷ ids) [] ps q h e = never cc
  row_among (id ∷ ids) (n ∷ parties) ps q h e =
      cases (eqb id q)
      (λ t.
      let y : id ≡ q = eqb-true id q t in
      let o : Some n ≡ Some k = rw t at e in
      let z : n ≡ k = cc in
      cases (member id ps) (λ u. rw (← y) u) (λ v. never (let w : false ≡ true = rw (eq-eqb n k z, v) at h in cc)))
      (λ f.
      cases (eqb n k && not (member id ps))
      (λ u. never (let w : false ≡ true = rw u at h in cc))
      (λ v. row_among ids parties ps q (rw v at h) (rw f at e)))

  -- a row below the first tells of its player what it told without the first, whose player is not below
  row_later : (id n : ℕ) (ids parties : List ℕ) (q : ℕ) → member id ids ≡ false → observe ids parties q ≡ Some k → observe (id ∷ ids) (n ∷ parties) q ≡ Some k
  unfolding observe
  row_later id n ids parties q d e =
      cases (eqb id q)
      (λ t.
      let y : id ≡ q = eqb-true id q t in
      let z : observe ids parties q ≡ None = observe_absent q ids parties (rw y at d) in
      never cc)
      (λ f. rw f e)

  -- where every row of a party is among some, and its players who are among these are among others, every row is among the others
  rows_among : (ids parties ps qs : List ℕ) → Distinct ids → ((q : ℕ) → observe ids parties q ≡ Some k → member q ps ≡ true → member q qs ≡ true) → party_seated ids parties ps k ≡ true → party_seated ids parties qs k ≡ true
  unfolding party_seated observe
  rows_among [] parties ps qs d so h = refl
  rows_among (id ∷ ids) [] ps qs d so h = refl
  rows_among (id ∷ ids) (n ∷ parties) ps qs d so h =
      let later : (q : ℕ) → observe ids parties q ≡ Some k → member q ps ≡ true → member q qs ≡ true = λ q e j. so q (row_later id n ids parties q d.0 e) j in
      cases (eqb n k)
      (λ t.
      cases (member id ps)
      (λ u.
      let z : n ≡ k = eqb-true n k t in
      let y : member id qs ≡ true = so id (rw (eq-eqb id id refl, z)) u in
      rw (t, y) (rows_among ids parties ps qs d.1 later (rw (t, u) at h)))
      (λ v. never (let w : false ≡ true = rw (t, v) at h in cc)))
      (λ f. rw f (rows_among ids parties ps qs d.1 later (rw f at h)))

-- a party that is not 0 is told by a row
told_by_row : (o : Option ℕ) (k : ℕ) → unwrap_or o 0 ≡ k → eqb k 0 ≡ false → o ≡ Some k
told_by_row None k e f = never (let z : eqb k 0 ≡ true = eq-eqb k 0 (sym e) in cc)
told_by_row (Some x) k e f = ap Some e

-- must q be seated where p is?
abbrev partner : Roster → ℕ → ℕ → Bool
partner r p q = not (eqb (party_of r p) 0) && eqb (party_of r q) (party_of r p)

-- everyone who waits and is of the party of somebody seated is seated
abbrev gathered : Roster → List ℕ → List ℕ → Bool
gathered r queue ps = every (λ q. not (any (λ p. partner r p q) ps) || member q ps) queue

-- every row of the parties of those who are seated is among these
abbrev whole : Roster → List ℕ → List ℕ → Bool
whole r qs ps = every (λ p. party_together r qs (party_of r p)) ps

module _ (r : Roster) (queue ps : List ℕ) (d : Distinct r.ids) (waiting : Within ps queue) where
  -- where all their rows wait, and all who wait are gathered, all their rows are seated
  gathered_seated : (whole r queue ps && gathered r queue ps) ≡ true → whole r ps ps ≡ true
  gathered_seated h =
      let b = both_hold (whole r queue ps) (gathered r queue ps) h in
      every_so (λ p. party_together r queue (party_of r p)) (λ p. party_together r ps (party_of r p)) ps
      (λ p j e.
      cases (eqb (party_of r p) 0) (λ z. rw z)
      (λ n.
      rw n
      (rows_among (party_of r p) r.ids r.parties queue ps d
      (λ q o i.
      holds_so (any (λ x. partner r x q) ps) (member q ps) (every_of (λ q. not (any (λ x. partner r x q) ps) || member q ps) q queue b.1 i)
      (any_of (λ x. partner r x q) p ps j (rw (n, eq-eqb (party_of r q) (party_of r p) (ap (λ (y : Option ℕ). unwrap_or y 0) o)))))
      (rw n at e))))
      b.0

  -- where all their rows are seated, they wait
  seated_wait : whole r ps ps ≡ true → whole r queue ps ≡ true
  seated_wait h =
      every_so (λ p. party_together r ps (party_of r p)) (λ p. party_together r queue (party_of r p)) ps
      (λ p j e.
      cases (eqb (party_of r p) 0) (λ z. rw z)
      (λ n. rw n (rows_among (party_of r p) r.ids r.parties ps queue d (λ q o i. member_within q ps queue waiting i) (rw n at e))))
      h

  -- and all who wait are gathered
  seated_gathered : whole r ps ps ≡ true → gathered r queue ps ≡ true
  seated_gathered h =
      every_passes (λ q. not (any (λ p. partner r p q) ps) || member q ps)
      (λ q.
      so_holds (any (λ p. partner r p q) ps) (member q ps)
      (λ y.
      any_so (λ p. partner r p q) (λ p. party_together r ps (party_of r p)) ps
      (λ p t u.
      let w = both_hold (not (eqb (party_of r p) 0)) (eqb (party_of r q) (party_of r p)) t in
      let n = not-true (eqb (party_of r p) 0) w.0 in
      row_among (party_of r p) r.ids r.parties ps q (rw n at u)
      (told_by_row (observe r.ids r.parties q) (party_of r p) (eqb-true (party_of r q) (party_of r p) w.1) n))
      y h))
      queue

  -- parties hold, if they are brought, where the rows wait and all who wait are gathered
  pub parties_told : (on : Bool)
      → (every (λ p. party_together r queue (cond on (party_of r p) 0)) ps && every (λ q. not (any (λ p. not (eqb (cond on (party_of r p) 0) 0) && eqb (cond on (party_of r q) 0) (cond on (party_of r p) 0)) ps) || member q ps) queue)
      ≡ (not on || whole r ps ps)
  parties_told true =
      same_truth (whole r queue ps && gathered r queue ps) (whole r ps ps) gathered_seated (λ h. rw (seated_wait h, seated_gathered h))
  parties_told false =
      rw (every_passes (λ (p : ℕ). true) (λ p. refl) ps)
      (every_passes (λ q. not (any (λ p. false) ps) || member q ps) (λ q. rw (any_never ps)) queue)
