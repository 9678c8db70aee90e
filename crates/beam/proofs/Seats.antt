-- Beam search over any queue, doubles included, by any score: full matches of different players who wait, and nobody sits in two.
use Prim.Native.Nat.{ℕ, zero, suc, ◌≤◌}
use mathlib.Core.Path.{◌≡◌, refl, sym, ap, ◌∙◌, subst}
use mathlib.Core.Bool.{Bool, true, false, not, cond, ◌&&◌, ◌||◌}
use mathlib.Core.List.{List, [], ◌∷◌, ◌++◌, map, foldl, append-nil}
use Rattle.std.specs.Prelude.{Option, None, Some}
use native.Mathlib.Omega.{arith}
use borrow.Author.Tests.{eqb-true}
use lib.Dec.{eqb}
use lib.ListN.{length, take, length-append, length-map}
use lib.Seq.{append_snoc}
use Rattle.base.specs.Lists.{seek, keep, member, Distinct, Within, All}
use Rattle.base.specs.Ranking.{higher, sort_by}
use Rattle.base.specs.Refusals.{Outcome, refused, gives}
use Rattle.base.proofs.Cases.{cases, never, pick}
use Rattle.base.proofs.Members.{absent_cons, member_head, member_append_right, within_self}
use Rattle.base.proofs.All.{all_append, all_take, all_map, all_so, all_keep}
use Rattle.queue.specs.declared.QueueEntry.{QueueEntry}
use Rattle.matchmaker.specs.Quality.{MatchState, seated}
use Rattle.seating.specs.declared.TeamComposition.{TeamComposition}
use Rattle.seating.specs.Seating.{seats}
use Rattle.seating.specs.Turns.{alone, seats_left, grown, complete}
use Rattle.beam.specs.Beam.{Beam, Beaming, expansions_of, expansions, stepped, steps, starting_from, concluded, beam_of, formed_with, anchored_after, beam_matches}
use Rattle.base.proofs.Sorting.{all_sort}
use Rattle.seating.proofs.Seated.{Fresh, Seated, Formed, fresh_alone, fresh_grown, fresh_formed, seats_add, seated_none, seated_add, seated_room, formed_none, waiting_of, all_waiting}

-- ---- what holds of all partial matches of a step

-- who is neither used nor seated
unbarred : (u v : Bool) → not (u || v) ≡ true → (u ≡ false) × (v ≡ false)
unbarred true v h = never cc
unbarred false true h = never cc
unbarred false false h = (refl, refl)

module _ (g : Beaming) (queue : List QueueEntry) (used : List ℕ) where
  -- a player may grow a match: they wait, and are neither used nor in it
  pub record Joins (m : MatchState) (p : ℕ) : Type 0 where
    pub waits : member p (waiting_of queue) ≡ true
    pub unused : member p used ≡ false
    pub unseated : member p (seated m) ≡ false

  -- what holds of a match that such a player has grown, where P held before
  module _ (P Q : MatchState → Type 0) (grows : (m : MatchState) (p : ℕ) → P m → Joins m p → Q (grown g.sizes m p)) where
    -- of all expansions of one match
    all_expansions_of : (m : MatchState) → P m → All Q (expansions_of g.sizes used queue m)
    all_expansions_of m h =
        let test : QueueEntry → Bool = λ e. not (member e.player used || member e.player (seated m)) in
        let a = all_keep (λ e. member e.player (waiting_of queue) ≡ true) test queue (all_waiting queue (waiting_of queue) (within_self (waiting_of queue))) in
        all_map (λ e. grown g.sizes m e.player) Q (keep test queue)
        (all_so (λ e. (member e.player (waiting_of queue) ≡ true) × (test e ≡ true)) _
        (λ e k.
        let f = unbarred (member e.player used) (member e.player (seated m)) k.1 in
        grows m e.player h (record { waits = k.0; unused = f.0; unseated = f.1 })) (keep test queue) a)

    -- of all expansions of a step
    all_expansions : (ms : List MatchState) → All P ms → All Q (expansions g.sizes used queue ms)
    unfolding expansions
    all_expansions [] a = tt
    all_expansions (m ∷ ms) a =
        all_append Q (expansions_of g.sizes used queue m) (expansions g.sizes used queue ms) (all_expansions_of m a.0) (all_expansions ms a.1)

    -- so of all that a step keeps
    pub all_stepped : (b : Beam) → All P b.partials → All Q (stepped g used queue b).partials
    unfolding stepped
    all_stepped b a =
        let ms = expansions g.sizes used queue b.partials in
        all_take Q g.width (sort_by (higher g.score) ms) (all_sort (higher g.score) Q ms (all_expansions b.partials a))

  -- what a player more keeps, any number of steps keeps
  pub all_steps : (P : MatchState → Type 0) → ((m : MatchState) (p : ℕ) → P m → Joins m p → P (grown g.sizes m p)) → (k : ℕ) (b : Beam) → All P b.partials → All P (steps g used queue k b).partials
  unfolding steps
  all_steps P grows zero b a = a
  all_steps P grows (suc k) b a = all_steps P grows k (stepped g used queue b) (all_stepped P P grows b a)

-- each of these matches seats somebody, so they are no more than their seats
formed_count : (s : TeamComposition) (ms : List MatchState) → All (Formed s) ms → length ms ≤ length (seats ms)
unfolding seats
formed_count s [] f = omega arith
formed_count s (m ∷ ms) f =
    omega (arith, formed_count s ms f.1, f.0.opened, length-append (seated m) (seats ms), length-append m.a.players m.b.players)

-- ---- one anchor

module _ (g : Beaming) (queue : List QueueEntry) where
  -- nobody, or a full match of players who are not used
  abbrev Found : List ℕ → Option MatchState → Type 0
  Found used None = Unit {0}
  Found used (Some m) = Fresh used (waiting_of queue) m × (complete g.sizes m ≡ true)

  -- an anchor's answer: refusal 5, or one of these
  abbrev Answered : List ℕ → Outcome (Option MatchState) → Type 0
  Answered used (refused n) = n ≡ 5
  Answered used (gives o) = Found used o

  -- the first complete one of such partial matches
  first_found : (used : List ℕ) (ms : List MatchState) → All (Fresh used (waiting_of queue)) ms → Found used (seek (complete g.sizes) Some None ms)
  unfolding seek
  first_found used [] a = tt
  first_found used (m ∷ ms) a = cases (complete g.sizes m) (λ t. rw t (a.0, t)) (λ t. rw t (first_found used ms a.1))

  -- an unused anchor
  beam_answered : (used : List ℕ) (p : ℕ) → member p used ≡ false → member p (waiting_of queue) ≡ true → Answered used (beam_of g used queue p)
  unfolding beam_of
  beam_answered used p h k =
      let b = steps g used queue (seats_left g.sizes) (starting_from p) in
      let a = all_steps g queue used (Fresh used (waiting_of queue))
      (λ m q f j. fresh_grown g.sizes used (waiting_of queue) m q f j.unseated j.unused j.waits)
      (seats_left g.sizes) (starting_from p) (fresh_alone used (waiting_of queue) p h k, tt) in
      pick (Answered used) b.unranked refl (first_found used b.partials a)

  -- ---- all anchors

  -- full matches, of different players who wait
  record Sound (ms : List MatchState) : Type 0 where
    matched : Seated (waiting_of queue) ms
    formed : All (Formed g.sizes) ms

  -- refusal 5, or such matches
  abbrev Outcomes : Outcome (List MatchState) → Type 0
  Outcomes (refused n) = n ≡ 5
  Outcomes (gives ms) = Sound ms

  -- what comes of an anchor's answer
  formed_sound : (ms : List MatchState) (x : Outcome (Option MatchState)) → Sound ms → Answered (seats ms) x → Outcomes (formed_with ms x)
  formed_sound ms (refused n) h a = a
  formed_sound ms (gives None) h a = h
  formed_sound ms (gives (Some m)) h a =
      record {
        matched = seated_add (seats ms) (waiting_of queue) ms m h.matched (within_self (seats ms)) a.0.free;
        formed = all_append (Formed g.sizes) ms (m ∷ []) h.formed (fresh_formed g.sizes (seats ms) (waiting_of queue) m a.0 a.1, tt);
      }

  -- one anchor
  anchored_sound : (x : Outcome (List MatchState)) (e : QueueEntry) → member e.player (waiting_of queue) ≡ true → Outcomes x → Outcomes (anchored_after g queue x e)
  anchored_sound (refused n) e k h = h
  anchored_sound (gives ms) e k h =
      cases (member e.player (seats ms)) (λ t. rw t h)
      (λ t. rw t (formed_sound ms (beam_of g (seats ms) queue e.player) h (beam_answered (seats ms) e.player t k)))

  -- some anchors, one after another
  anchors_sound : (es : List QueueEntry) (x : Outcome (List MatchState)) → All (λ e. member e.player (waiting_of queue) ≡ true) es → Outcomes x → Outcomes (foldl (anchored_after g queue) x es)
  anchors_sound [] x w h = h
  anchors_sound (e ∷ es) x w h = anchors_sound es (anchored_after g queue x e) w.1 (anchored_sound x e w.0 h)

  -- all anchors
  beam_sound : Outcomes (beam_matches g queue)
  beam_sound =
      anchors_sound queue (gives []) (all_waiting queue (waiting_of queue) (within_self (waiting_of queue)))
      (record { matched = seated_none (waiting_of queue); formed = tt })

  -- a refusal is refusal 5, and no other
  pub beam_refuses : (n : ℕ) → beam_matches g queue ≡ refused n → n ≡ 5
  beam_refuses n e = subst Outcomes e beam_sound

  -- where nothing is refused
  module _ (ms : List MatchState) (given : beam_matches g queue ≡ gives ms) where
    sound : Sound ms
    sound = subst Outcomes given beam_sound

    -- every match has teams of exactly A and B players
    pub beam_sized : All (λ m. (length m.a.players ≡ g.sizes.a) × (length m.b.players ≡ g.sizes.b)) ms
    beam_sized = all_so (Formed g.sizes) _ (λ m f. f.sized) ms sound.formed

    -- and states these sizes
    pub beam_stated : All (λ m. (m.a.size ≡ length m.a.players) × (m.b.size ≡ length m.b.players)) ms
    beam_stated = all_so (Formed g.sizes) _ (λ m f. f.stated) ms sound.formed

    -- all seats of all matches are of different players
    pub beam_different : Distinct (seats ms)
    beam_different = sound.matched.different

    -- everyone seated waits in the queue
    pub beam_queued : Within (seats ms) (map (λ e. e.player) queue)
    beam_queued = sound.matched.queued

    -- so the seats are no more than the entries
    pub beam_room : length (seats ms) ≤ length queue
    beam_room = omega (arith, seated_room (waiting_of queue) ms sound.matched, length-map queue (λ (e : QueueEntry). e.player))

    -- and neither are the matches
    pub beam_count : length ms ≤ length queue
    beam_count = omega (arith, beam_room, formed_count g.sizes ms sound.formed)

    -- "With A = 0 nothing is formed."
    pub beam_none_of_a : g.sizes.a ≡ 0 → ms ≡ []
    beam_none_of_a h = formed_none g.sizes ms h sound.formed

-- ---- width 0

-- no match has come to these
abbrev Unchanged : List MatchState → Outcome (List MatchState) → Type 0
Unchanged ms (refused n) = Unit {0}
Unchanged ms (gives ns) = ns ≡ ms

module _ (g : Beaming) (queue : List QueueEntry) (narrow : g.width ≡ 0) where
  -- after a step nothing is kept
  none_kept : (used : List ℕ) (k : ℕ) (b : Beam) → (k ≡ 0 → ⊥) → (steps g used queue k b).partials ≡ []
  unfolding steps stepped
  none_kept used zero b n = absurd (n refl)
  none_kept used (suc zero) b n = ap (λ (w : ℕ). take w (sort_by (higher g.score) (expansions g.sizes used queue b.partials))) narrow
  none_kept used (suc (suc k)) b n = none_kept used (suc k) (stepped g used queue b) (λ e. omega (arith, e))

  module _ (left : seats_left g.sizes ≡ 0 → ⊥) where
    -- so no anchor forms a match
    none_found : (used : List ℕ) (p : ℕ) (ms : List MatchState) → Unchanged ms (formed_with ms (beam_of g used queue p))
    unfolding beam_of seek
    none_found used p ms =
        let b = steps g used queue (seats_left g.sizes) (starting_from p) in
        let e = none_kept used (seats_left g.sizes) (starting_from p) left in
        pick (λ x. Unchanged ms (formed_with ms x)) b.unranked tt
        (subst (λ (l : List MatchState). Unchanged ms (formed_with ms (gives (seek (complete g.sizes) Some None l)))) (sym e) refl)

    -- one more anchor forms nothing
    none_after : (x : Outcome (List MatchState)) (e : QueueEntry) → Unchanged [] x → Unchanged [] (anchored_after g queue x e)
    none_after (refused n) e h = tt
    none_after (gives ms) e h =
        let w = none_found (seats ms) e.player ms in
        cases (member e.player (seats ms)) (λ t. rw t h)
        (λ t. rw t (subst (λ (l : List MatchState). Unchanged l (formed_with ms (beam_of g (seats ms) queue e.player))) h w))

    -- and neither do any number of them
    none_of_all : (es : List QueueEntry) (x : Outcome (List MatchState)) → Unchanged [] x → Unchanged [] (foldl (anchored_after g queue) x es)
    none_of_all [] x h = h
    none_of_all (e ∷ es) x h = none_of_all es (anchored_after g queue x e) (none_after x e h)

    -- width 0 forms nothing, except where the anchor alone is a match (A = 1, B = 0)
    pub beam_narrow : (ms : List MatchState) → beam_matches g queue ≡ gives ms → ms ≡ []
    beam_narrow ms e = subst (Unchanged []) e (none_of_all queue (gives []) refl)

-- ---- A = 1 and B = 0, at any width

-- of different numbers one in the middle is not among those before it
distinct_middle : (xs : List ℕ) (y : ℕ) (ys : List ℕ) → Distinct (xs ++ (y ∷ ys)) → member y xs ≡ false
unfolding seek
distinct_middle [] y ys d = refl
distinct_middle (x ∷ xs) y ys d =
    cases (eqb x y)
    (λ t.
    let k : member x (xs ++ (y ∷ ys)) ≡ true = rw (eqb-true x y t) (member_append_right y xs (y ∷ ys) (member_head y ys)) in
    never cc)
    (λ f. absent_cons y x xs f (distinct_middle xs y ys d.1))

module _ (g : Beaming) (queue : List QueueEntry) (one : g.sizes.a ≡ 1) (nobody : g.sizes.b ≡ 0) where
  -- the anchor alone is complete
  found_alone : (used : List ℕ) (p : ℕ) → beam_of g used queue p ≡ gives (Some (alone p))
  unfolding beam_of steps seek
  found_alone used p =
      let c : complete g.sizes (alone p) ≡ true = λ j. eqb 1 (one j) && eqb 0 (nobody j) in
      let e : seats_left g.sizes ≡ 0 = omega arith in
      ap (λ (k : ℕ). concluded g.sizes (steps g used queue k (starting_from p))) e ∙ ap (λ (b : Bool). gives (cond b (Some (alone p)) None)) c

  -- anchors of whom none is seated yet form a match each
  each_alone : (es : List QueueEntry) (ms : List MatchState) → Distinct (seats ms ++ waiting_of es) → foldl (anchored_after g queue) (gives ms) es ≡ gives (ms ++ map (λ e. alone e.player) es)
  each_alone [] ms d = ap gives (sym (append-nil ms))
  each_alone (e ∷ es) ms d =
      let f = distinct_middle (seats ms) e.player (waiting_of es) d in
      let d' = subst Distinct (sym (append_snoc (seats ms) e.player (waiting_of es)) ∙ ap (λ (l : List ℕ). l ++ waiting_of es) (sym (seats_add ms (alone e.player)))) d in
      rw (f, found_alone (seats ms) e.player)
      (each_alone es (ms ++ (alone e.player ∷ [])) d' ∙ ap gives (append_snoc ms (alone e.player) (map (λ e. alone e.player) es)))

  -- there, of different players, each is a match of their own
  pub beam_alone : Distinct (waiting_of queue) → beam_matches g queue ≡ gives (map (λ e. alone e.player) queue)
  unfolding seats
  beam_alone d = each_alone queue [] d
