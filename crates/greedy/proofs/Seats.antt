-- Greedy search over any queue, doubles included: full matches of different players who wait, and nobody sits in two.
use Prim.Native.Nat.{ℕ, zero, suc, ◌+◌, ◌≤◌}
use mathlib.Core.Path.{◌≡◌, refl, subst}
use mathlib.Core.Bool.{true, false, not}
use mathlib.Core.List.{List, [], ◌∷◌, map, foldl}
use Rattle.std.specs.Prelude.{Option, None, Some}
use native.Mathlib.Omega.{arith}
use borrow.Author.Tests.{not-true}
use lib.Ieee.{Float}
use lib.ListN.{length, length-append, length-map}
use Rattle.base.specs.Lists.{member, Distinct, Within, All}
use Rattle.base.proofs.Cases.{cases}
use Rattle.base.proofs.Members.{member_head, within_tail, within_append, within_self, absent_within, within_trans}
use Rattle.base.proofs.All.{all_append, all_so, all_keep, all_middle}
use Rattle.queue.specs.declared.QueueEntry.{QueueEntry}
use Rattle.roster.specs.Roster.{Roster}
use Rattle.matchmaker.specs.Quality.{seated}
use Rattle.seating.specs.declared.TeamComposition.{TeamComposition}
use Rattle.seating.specs.Seating.{seats}
use Rattle.seating.specs.Turns.{seats_left, complete}
use Rattle.greedy.specs.Greedy.{Filling, Search, nearest, opened, picked, if_some, filled, begun, formed_by, anchored, greedy_matches}
use Rattle.greedy.proofs.Picks.{nearest_is}
use Rattle.seating.proofs.Seated.{Fresh, Seated, Formed, within_grown, fresh_alone, fresh_grown, fresh_formed, seats_add, seated_none, seated_add, seated_room, formed_none, waiting_of, all_waiting}

-- ---- the pick is an unused entry of the queue

-- the player picked waits, and is not used
pub pick_free : (reference : Float) (used : List ℕ) (queue : List QueueEntry) (e : QueueEntry) → nearest reference used queue ≡ Some e → (member e.player (waiting_of queue) ≡ true) × (member e.player used ≡ false)
pick_free reference used queue e h =
    let n = nearest_is reference used queue e h in
    let a = all_keep (λ x. member x.player (waiting_of queue) ≡ true) (λ x. not (member x.player used)) queue (all_waiting queue (waiting_of queue) (within_self (waiting_of queue))) in
    let b = subst (All (λ x. (member x.player (waiting_of queue) ≡ true) × (not (member x.player used) ≡ true))) n.split a in
    let k = all_middle (λ x. (member x.player (waiting_of queue) ≡ true) × (not (member x.player used) ≡ true)) n.before e n.behind b in
    (k.0, not-true (member e.player used) k.1)

-- ---- one anchor

module _ (s : TeamComposition) (r : Roster) (queue : List QueueEntry) where
  -- the teams are of players who were not used before the anchor, and everyone in them is used by now
  record Fills (before : List ℕ) (f : Filling) : Type 0 where
    fresh : Fresh before (waiting_of queue) f.teams
    kept : Within before f.used
    taken : Within (seated f.teams) f.used

  -- an anchor who was not used opens such teams
  opened_fills : (used : List ℕ) (e : QueueEntry) → member e.player used ≡ false → member e.player (waiting_of queue) ≡ true → Fills used (opened used e)
  opened_fills used e h k =
      record {
        fresh = fresh_alone used (waiting_of queue) e.player h k;
        kept = within_tail used e.player used (within_self used);
        taken = (member_head e.player used, tt);
      }

  -- a pick of somebody unused keeps it
  picked_fills : (before : List ℕ) (f : Filling) (e : QueueEntry) → Fills before f → member e.player (waiting_of queue) ≡ true → member e.player f.used ≡ false → Fills before (picked s r f e)
  picked_fills before f e g k h =
      let p = e.player in
      record {
        fresh =
            fresh_grown s before (waiting_of queue) f.teams p g.fresh (absent_within p (seated f.teams) f.used g.taken h)
            (absent_within p before f.used g.kept h) k;
        kept = within_tail before p f.used g.kept;
        taken = within_grown s f.teams p f.used g.taken;
      }

  -- one more pick, if there is one, and what comes behind it
  filled_on : (before : List ℕ) (left : ℕ) → ((f : Filling) → Fills before f → Fills before (filled s r queue left f)) → (f : Filling) → Fills before f → (o : Option QueueEntry) → nearest f.reference f.used queue ≡ o → Fills before (if_some o (λ e. filled s r queue left (picked s r f e)) f)
  filled_on before left rest f g None h = g
  filled_on before left rest f g (Some e) h =
      let k = pick_free f.reference f.used queue e h in
      rest (picked s r f e) (picked_fills before f e g k.0 k.1)

  -- all picks of an anchor keep it
  filled_fills : (before : List ℕ) (left : ℕ) (f : Filling) → Fills before f → Fills before (filled s r queue left f)
  unfolding filled
  filled_fills before zero f g = g
  filled_fills before (suc left) f g = filled_on before left (filled_fills before left) f g (nearest f.reference f.used queue) refl

  -- ---- all anchors

  -- the matches so far, and everyone in them is used
  record Sound (o : Search) : Type 0 where
    matched : Seated (waiting_of queue) o.matches
    taken : Within (seats o.matches) o.used
    formed : All (Formed s) o.matches

  -- an anchor's match is formed, or not
  settled_sound : (o : Search) (f : Filling) → Sound o → Fills o.used f → Sound (formed_by s o f)
  settled_sound o f h g =
      let w = within_trans (seats o.matches) o.used f.used h.taken g.kept in
      cases (complete s f.teams)
      (λ t.
      rw t
      (record {
        matched = seated_add o.used (waiting_of queue) o.matches f.teams h.matched h.taken g.fresh.free;
        taken = rw (seats_add o.matches f.teams) (within_append (seats o.matches) (seated f.teams) f.used w g.taken);
        formed = all_append (Formed s) o.matches (f.teams ∷ []) h.formed (fresh_formed s o.used (waiting_of queue) f.teams g.fresh t, tt);
      }))
      (λ t. rw t (record { matched = h.matched; taken = w; formed = h.formed }))

  -- one anchor
  anchored_sound : (o : Search) (e : QueueEntry) → Sound o → member e.player (waiting_of queue) ≡ true → Sound (anchored s r queue o e)
  unfolding anchored
  anchored_sound o e h k =
      cases (member e.player o.used) (λ t. rw t h)
      (λ t. rw t (settled_sound o _ h (filled_fills o.used (seats_left s) (opened o.used e) (opened_fills o.used e t k))))

  -- some anchors, one after another
  anchors_sound : (es : List QueueEntry) (o : Search) → All (λ e. member e.player (waiting_of queue) ≡ true) es → Sound o → Sound (foldl (anchored s r queue) o es)
  anchors_sound [] o w h = h
  anchors_sound (e ∷ es) o w h = anchors_sound es (anchored s r queue o e) w.1 (anchored_sound o e h w.0)

  -- at first there is no match
  begun_sound : Sound begun
  unfolding seats
  begun_sound = record { matched = seated_none (waiting_of queue); taken = tt; formed = tt }

  -- all anchors
  greedy_sound : Sound (foldl (anchored s r queue) begun queue)
  greedy_sound = anchors_sound queue begun (all_waiting queue (waiting_of queue) (within_self (waiting_of queue))) begun_sound

  -- every match has teams of exactly A and B players
  pub greedy_sized : All (λ m. (length m.a.players ≡ s.a) × (length m.b.players ≡ s.b)) (greedy_matches s r queue)
  greedy_sized = all_so (Formed s) _ (λ m f. f.sized) (greedy_matches s r queue) greedy_sound.formed

  -- and states these sizes
  pub greedy_stated : All (λ m. (m.a.size ≡ length m.a.players) × (m.b.size ≡ length m.b.players)) (greedy_matches s r queue)
  greedy_stated = all_so (Formed s) _ (λ m f. f.stated) (greedy_matches s r queue) greedy_sound.formed

  -- all seats of all matches are of different players
  pub greedy_different : Distinct (seats (greedy_matches s r queue))
  greedy_different = greedy_sound.matched.different

  -- everyone seated waits in the queue
  pub greedy_queued : Within (seats (greedy_matches s r queue)) (map (λ e. e.player) queue)
  greedy_queued = greedy_sound.matched.queued

  -- so the seats are no more than the entries
  pub greedy_room : length (seats (greedy_matches s r queue)) ≤ length queue
  greedy_room = omega (arith, seated_room (waiting_of queue) (greedy_matches s r queue) greedy_sound.matched, length-map queue (λ (e : QueueEntry). e.player))

  -- "With A = 0 nothing is formed."
  pub greedy_none_of_a : s.a ≡ 0 → greedy_matches s r queue ≡ []
  greedy_none_of_a h = formed_none s (greedy_matches s r queue) h greedy_sound.formed

  -- an anchor that is not skipped forms one match at most
  settled_count : (o : Search) (f : Filling) → length (formed_by s o f).matches ≤ suc (length o.matches)
  settled_count o f =
      cases (complete s f.teams) (λ t. rw t (omega (arith, length-append o.matches (f.teams ∷ [])))) (λ t. rw t (omega arith))

  -- one that is skipped forms none
  anchored_count : (o : Search) (e : QueueEntry) → length (anchored s r queue o e).matches ≤ suc (length o.matches)
  unfolding anchored
  anchored_count o e =
      cases (member e.player o.used) (λ t. rw t (omega arith))
      (λ t. rw t (settled_count o (filled s r queue (seats_left s) (opened o.used e))))

  -- some anchors form as many as they are, at most
  anchors_count : (es : List QueueEntry) (o : Search) → length (foldl (anchored s r queue) o es).matches ≤ length o.matches + length es
  anchors_count [] o = omega arith
  anchors_count (e ∷ es) o = omega (arith, anchors_count es (anchored s r queue o e), anchored_count o e)

  -- so the matches are no more than the entries
  pub greedy_count : length (greedy_matches s r queue) ≤ length queue
  greedy_count = omega (arith, anchors_count queue begun)
