-- The partial matches of a step are equally long: none is complete before the last step, and there each is. So the counted steps
-- of an anchor are the Rust's own loop, which goes on while some partial match is short and carries complete ones over.
use Prim.Native.Nat.{ℕ, zero, suc, ◌+◌, ◌-◌, ◌≤◌, ◌<◌}
use mathlib.Core.Path.{◌≡◌, refl, sym, ap, ◌∙◌, subst}
use mathlib.Core.Bool.{Bool, true, false, not, cond, ◌||◌, or-false, or-true}
use mathlib.Core.List.{List, [], ◌∷◌, ◌++◌, map}
use Rattle.std.specs.Prelude.{Option, None, Some}
use native.Mathlib.Omega.{arith}
use borrow.Author.Tests.{eqb-true, eq-eqb}
use lib.Dec.{eqb}
use lib.ListN.{length, take, length-append}
use lib.Seq.{take-nil}
use Rattle.base.specs.Lists.{seek, any, keep, member, All}
use Rattle.base.specs.Ranking.{higher, sort_by, unrankable}
use Rattle.base.specs.Refusals.{refused, gives}
use Rattle.base.proofs.Cases.{cases}
use Rattle.base.proofs.Loops.{any_append}
use Rattle.base.proofs.Members.{eqb_sym, member_head, member_tail}
use Rattle.queue.specs.declared.QueueEntry.{QueueEntry}
use Rattle.matchmaker.specs.Quality.{MatchState, seated}
use Rattle.seating.specs.declared.TeamComposition.{TeamComposition}
use Rattle.seating.specs.Turns.{alone, seats_left, takes_a, grown, complete}
use Rattle.beam.specs.Beam.{Beam, Beaming, expansions_of, expansions, stepped, steps, starting_from, beam_of}
use Rattle.beam.proofs.Seats.{all_stepped}
use Rattle.base.proofs.All.{all_so}
use Rattle.seating.proofs.Seated.{grown_seated, complete_sized}
use Rattle.seating.proofs.TurnLaws.{short, left, Fits, short_left, full_left, a_short, grown_pushed, pushed_left, pushed_fits}

-- ---- one partial match

-- one more in the middle: who was there still is
member_insert : (n p : ℕ) (xs ys : List ℕ) → member n (xs ++ ys) ≡ true → member n (xs ++ (p ∷ ys)) ≡ true
unfolding seek
member_insert n p [] ys h = member_tail n p ys h
member_insert n p (x ∷ xs) ys h = cases (eqb x n) (λ t. rw t) (λ f. rw f (member_insert n p xs ys (rw f at h)))

-- k seats are left, the anchor sits in it, and no team is over its size; where A is 0, the anchor alone is
pub record Held (s : TeamComposition) (anchor k : ℕ) (m : MatchState) : Type 0 where
  pub a : length m.a.players ≤ s.a - 1 + 1
  pub b : Fits s m
  pub seats : left s m ≡ k
  pub anchored : member anchor (seated m) ≡ true

-- a player more takes one of the seats that are left
held_grown : (s : TeamComposition) (anchor k : ℕ) (m : MatchState) (p : ℕ) → Held s anchor (suc k) m → Held s anchor k (grown s m p)
held_grown s anchor k m p h =
    let t = short_left s m k h.seats in
    let e = grown_pushed s m p h.b t in
    record {
      a = subst (λ (x : MatchState). length x.a.players ≤ s.a - 1 + 1) (sym e)
          (cases (takes_a s m) (λ u. rw u (omega (arith, a_short s m u, length-append m.a.players (p ∷ [])))) (λ u. rw u h.a));
      b = subst (Fits s) (sym e) (pushed_fits s m p h.b t);
      seats = ap (left s) e ∙ pushed_left s m p h.b t k h.seats;
      anchored =
          grown_seated (λ l. member anchor l ≡ true) s m p
          (λ xs ys i. member_insert anchor p xs ys (subst (λ (l : List ℕ). member anchor l ≡ true) i h.anchored)) h.anchored;
    }

-- where a seat is left the match is not complete
held_short : (s : TeamComposition) (anchor k : ℕ) (m : MatchState) → Held s anchor (suc k) m → complete s m ≡ false
held_short s anchor k m h =
    let o = h.seats in
    cases (complete s m) (λ t. let z = complete_sized s m t in absurd (omega (arith, o, z.0, z.1))) (λ f. f)

module _ (s : TeamComposition) (anchor : ℕ) (some-a : 1 ≤ s.a) (m : MatchState) where
  -- the other seats are taken
  held_seats : (k : ℕ) → Held s anchor k m → length (seated m) + k ≡ s.a + s.b
  held_seats k h = omega (arith, h.a, h.b, h.seats, length-append m.a.players m.b.players)

  -- where no seat is left it is complete
  held_full : Held s anchor 0 m → complete s m ≡ true
  held_full h =
      let x = h.a in
      let y = h.b in
      let z = h.seats in
      rw (eq-eqb (length m.a.players) s.a (omega arith), eq-eqb (length m.b.players) s.b (omega arith))

-- the first of a list, if there is one
abbrev pub first : {A : Type 0} → List A → Option A
first [] = None
first (x ∷ xs) = Some x

-- where all are complete the first complete one is the first
first_complete_lem : (s : TeamComposition) (ms : List MatchState) → All (λ m. complete s m ≡ true) ms → seek (complete s) Some None ms ≡ first ms
unfolding seek
first_complete_lem s [] h = refl
first_complete_lem s (m ∷ ms) h = rw h.0

-- ---- the steps of an anchor

module _ (g : Beaming) (queue : List QueueEntry) (used : List ℕ) (anchor : ℕ) where
  -- a step takes a seat of each
  held_step : (k : ℕ) (b : Beam) → All (Held g.sizes anchor (suc k)) b.partials → All (Held g.sizes anchor k) (stepped g used queue b).partials
  held_step k = all_stepped g queue used (Held g.sizes anchor (suc k)) (Held g.sizes anchor k) (λ m p h j. held_grown g.sizes anchor k m p h)

  -- j steps take j seats
  held_steps : (j i k : ℕ) (b : Beam) → i ≡ j + k → All (Held g.sizes anchor i) b.partials → All (Held g.sizes anchor k) (steps g used queue j b).partials
  unfolding steps
  held_steps zero i k b e h = subst (λ (n : ℕ). All (Held g.sizes anchor n) b.partials) (e ∙ omega arith) h
  held_steps (suc j) i k b e h =
      let f : i ≡ suc (j + k) = omega arith in
      held_steps j (j + k) k (stepped g used queue b) refl (held_step (j + k) b (subst (λ (n : ℕ). All (Held g.sizes anchor n) b.partials) f h))

  -- the anchor alone
  held_start : Held g.sizes anchor (seats_left g.sizes) (alone anchor)
  held_start = record { a = omega arith; b = omega arith; seats = omega arith; anchored = member_head anchor [] }

  -- after j of the steps
  held_after : (j k : ℕ) → seats_left g.sizes ≡ j + k → All (Held g.sizes anchor k) (steps g used queue j (starting_from anchor)).partials
  held_after j k e = held_steps j (seats_left g.sizes) k (starting_from anchor) e (held_start, tt)

  -- before the last step no partial match is complete
  pub none_complete : (k : ℕ) → k < seats_left g.sizes → All (λ m. complete g.sizes m ≡ false) (steps g used queue k (starting_from anchor)).partials
  none_complete k h =
      let ms = (steps g used queue k (starting_from anchor)).partials in
      let l = seats_left g.sizes - k - 1 in
      all_so (Held g.sizes anchor (suc l)) _ (λ m f. held_short g.sizes anchor l m f) ms (held_after k (suc l) (omega arith))

  module _ (some-a : 1 ≤ g.sizes.a) where
    -- after k steps every partial match seats the anchor and k more
    pub equally_long : (k : ℕ) → k ≤ seats_left g.sizes → All (λ m. length (seated m) ≡ k + 1) (steps g used queue k (starting_from anchor)).partials
    equally_long k h =
        let ms = (steps g used queue k (starting_from anchor)).partials in
        let l = seats_left g.sizes - k in
        all_so (Held g.sizes anchor l) _ (λ m f. let e = held_seats g.sizes anchor some-a m l f in omega (arith, e)) ms (held_after k l (omega arith))

    -- after the last step every partial match is complete
    pub all_complete : All (λ m. complete g.sizes m ≡ true) (steps g used queue (seats_left g.sizes) (starting_from anchor)).partials
    all_complete =
        let ms = (steps g used queue (seats_left g.sizes) (starting_from anchor)).partials in
        all_so (Held g.sizes anchor 0) _ (held_full g.sizes anchor some-a) ms (held_after (seats_left g.sizes) 0 (omega arith))

    -- so the first complete one is the best of the last step
    pub best_formed : beam_of g used queue anchor ≡
        let b = steps g used queue (seats_left g.sizes) (starting_from anchor) in
        cond b.unranked (refused 5) (gives (first b.partials))
    unfolding beam_of
    best_formed =
        let b = steps g used queue (seats_left g.sizes) (starting_from anchor) in
        ap (λ (o : Option MatchState). cond b.unranked (refused 5) (gives o)) (first_complete_lem g.sizes b.partials all_complete)

-- ---- the Rust's loop

-- "candidate.player_id == anchor.player_id || team_a.contains(..) || team_b.contains(..) || used.contains(..)", where the Rust's
-- `used` has the anchor too
abbrev pub passed_over : ℕ → List ℕ → MatchState → ℕ → Bool
passed_over anchor used m p =
    eqb p anchor || (member p m.a.players || (member p m.b.players || member p (used ++ (anchor ∷ []))))

-- a partial match that is complete is carried over as it is, any other is expanded
abbrev pub next_of : TeamComposition → ℕ → List ℕ → List QueueEntry → MatchState → List MatchState
next_of s anchor used queue m =
    cond (complete s m) (m ∷ []) (map (λ e. grown s m e.player) (keep (λ e. not (passed_over anchor used m e.player)) queue))

-- "next_beam"
unfoldable pub next_beam : TeamComposition → ℕ → List ℕ → List QueueEntry → List MatchState → List MatchState
next_beam s anchor used queue [] = []
next_beam s anchor used queue (m ∷ ms) = next_of s anchor used queue m ++ next_beam s anchor used queue ms

-- "sort_by", "truncate"
abbrev pub ranked_from : Beaming → Bool → List MatchState → Beam
ranked_from g unranked ms =
    record { partials = take g.width (sort_by (higher g.score) ms); unranked = unranked || unrankable (map g.score ms) }

-- n rounds of the loop at most; it goes on while some partial match is short, so it ends where there is none
unfoldable pub while_some_short : Beaming → ℕ → List ℕ → List QueueEntry → ℕ → Beam → Beam
while_some_short g anchor used queue zero b = b
while_some_short g anchor used queue (suc n) b =
    cond (any (short g.sizes) b.partials)
    (while_some_short g anchor used queue n (ranked_from g b.unranked (next_beam g.sizes anchor used queue b.partials)))
    b

-- ---- the loop and the count

-- where the anchor sits in the match, the Rust passes over whoever is used or in it
passed_same : (anchor : ℕ) (used : List ℕ) (m : MatchState) → member anchor (seated m) ≡ true → (p : ℕ) → passed_over anchor used m p ≡ (member p used || member p (seated m))
unfolding seek
passed_same anchor used m h p =
    cases (eqb p anchor)
    (λ t.
    let e : member p (seated m) ≡ true = subst (λ (x : ℕ). member x (seated m) ≡ true) (sym (eqb-true p anchor t)) h in
    rw (t, e) (sym (or-true (member p used))))
    (λ f.
    let e : member p (anchor ∷ []) ≡ false = rw (eqb_sym anchor p ∙ f) in
    let u : member p (used ++ (anchor ∷ [])) ≡ member p used = any_append (λ x. eqb x p) used (anchor ∷ []) ∙ ap (λ (b : Bool). member p used || b) e ∙ or-false (member p used) in
    rw (f, u, any_append (λ x. eqb x p) m.a.players m.b.players) (turned (member p m.a.players) (member p m.b.players) (member p used)))
  where
    -- the order of the tests makes no difference
    turned : (x y u : Bool) → (x || (y || u)) ≡ (u || (x || y))
    turned true y true = refl
    turned true y false = refl
    turned false true true = refl
    turned false true false = refl
    turned false false true = refl
    turned false false false = refl

module _ (g : Beaming) (queue : List QueueEntry) (used : List ℕ) (anchor : ℕ) where
  -- where a seat is left, the Rust's next partial matches are the expansions
  next_same : (k : ℕ) (m : MatchState) → Held g.sizes anchor (suc k) m → next_of g.sizes anchor used queue m ≡ expansions_of g.sizes used queue m
  next_same k m h =
      rw (held_short g.sizes anchor k m h)
      (λ j. map (λ e. grown g.sizes m e.player) (keep (λ e. not (passed_same anchor used m h.anchored e.player j)) queue))

  -- of all partial matches of a round
  nexts_same : (k : ℕ) (ms : List MatchState) → All (Held g.sizes anchor (suc k)) ms → next_beam g.sizes anchor used queue ms ≡ expansions g.sizes used queue ms
  unfolding next_beam expansions
  nexts_same k [] h = refl
  nexts_same k (m ∷ ms) h = λ j. next_same k m h.0 j ++ nexts_same k ms h.1 j

  -- where no seat is left, no partial match is short
  none_short : (ms : List MatchState) → All (Held g.sizes anchor 0) ms → any (short g.sizes) ms ≡ false
  unfolding seek
  none_short [] h = refl
  none_short (m ∷ ms) h = rw (full_left g.sizes m h.0.seats) (none_short ms h.1)

  -- without a partial match nothing changes
  step_empty : (u : Bool) → stepped g used queue (record { partials = []; unranked = u }) ≡ record { partials = []; unranked = u }
  unfolding stepped expansions
  step_empty u = λ j. record { partials = take-nil {A = MatchState} g.width j; unranked = or-false u j }

  -- whatever the number of steps
  steps_empty : (k : ℕ) (u : Bool) → steps g used queue k (record { partials = []; unranked = u }) ≡ record { partials = []; unranked = u }
  unfolding steps
  steps_empty zero u = refl
  steps_empty (suc k) u = ap (steps g used queue k) (step_empty u) ∙ steps_empty k u

  -- from any partial matches with k seats left
  while_from : (k n : ℕ) (ms : List MatchState) (u : Bool) → k ≤ n → All (Held g.sizes anchor k) ms → while_some_short g anchor used queue n (record { partials = ms; unranked = u }) ≡ steps g used queue k (record { partials = ms; unranked = u })
  unfolding while_some_short steps stepped seek
  while_from zero zero ms u l h = refl
  while_from zero (suc n) ms u l h = rw (none_short ms h)
  while_from (suc k) zero ms u l h = absurd (omega arith)
  while_from (suc k) (suc n) [] u l h = sym (steps_empty (suc k) u)
  while_from (suc k) (suc n) (m ∷ ms) u l h =
      let b : Beam = record { partials = m ∷ ms; unranked = u } in
      rw (short_left g.sizes m k h.0.seats)
      (ap (λ (es : List MatchState). while_some_short g anchor used queue n (ranked_from g u es)) (nexts_same k (m ∷ ms) h)
      ∙ while_from k n (stepped g used queue b).partials (stepped g used queue b).unranked (omega arith) (held_step g queue used anchor k b h))

  -- of any number of rounds that is not below the count the loop makes what the counted steps make
  pub steps_while : (n : ℕ) → seats_left g.sizes ≤ n → while_some_short g anchor used queue n (starting_from anchor) ≡ steps g used queue (seats_left g.sizes) (starting_from anchor)
  steps_while n h = while_from (seats_left g.sizes) n (alone anchor ∷ []) false h (held_start g queue used anchor, tt)

  -- after the counted steps of an anchor the loop has ended
  pub steps_ended : any (short g.sizes) (steps g used queue (seats_left g.sizes) (starting_from anchor)).partials ≡ false
  steps_ended = none_short _ (held_after g queue used anchor (seats_left g.sizes) 0 (omega arith))
