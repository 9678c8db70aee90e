-- Document 02, 2.1 and 2.2, greedy: with later copies put in that joined no earlier, every match stays the same.
use Prim.Native.Nat.{ℕ, zero, suc, ◌≤◌}
use mathlib.Core.Path.{◌≡◌, refl, sym, ap, ◌∙◌, subst}
use mathlib.Core.Bool.{true, false, not}
use mathlib.Core.List.{List, [], ◌∷◌, ◌++◌, foldl, append_assoc}
use Rattle.std.specs.Prelude.{Option, None, Some}
use native.Mathlib.Omega.{arith}
use lib.Ieee.{Float, inf, lt, eq}
use Rattle.base.specs.Lists.{keep, member, Within, All}
use Rattle.base.proofs.Cases.{cases}
use Rattle.base.proofs.Loops.{fold_append, keep_append}
use Rattle.base.proofs.All.{all_both, all_so, all_middle}
use Rattle.base.proofs.Members.{within_tail, within_self, member_within, within_trans}
use Rattle.queue.specs.declared.QueueEntry.{QueueEntry}
use Rattle.queue.specs.Queue.{is_of_any, without_all}
use Rattle.roster.specs.Roster.{Roster}
use Rattle.seating.specs.declared.TeamComposition.{TeamComposition}
use Rattle.seating.specs.Turns.{seats_left}
use Rattle.greedy.specs.Greedy.{Filling, Search, distance, goes_before, closer, nearest, opened, picked, if_some, filled, begun, anchored, greedy_matches}
use Rattle.greedy.specs.LongerWait.{Picked}
use Rattle.greedy.specs.Copies.{Copy, Copied, plain, more}
use Rattle.greedy.proofs.Ties.{after_far, after_tied, after_both}
use Rattle.greedy.proofs.Picks.{nearest_picked}

-- ---- a pick

module _ (reference : Float) where
  abbrev far : QueueEntry → Float
  far x = distance reference x.rating

  -- x does not go before the nearest so far
  abbrev Behind : Option QueueEntry → QueueEntry → Type 0
  Behind None x = lt (far x) (inf false) ≡ false
  Behind (Some near) x = goes_before (far x) x.joined (far near) near.joined ≡ false

  -- so the nearest stays
  behind_stays : (o : Option QueueEntry) (x : QueueEntry) → Behind o x → closer reference o x ≡ o
  unfolding closer
  behind_stays None x h = rw h
  behind_stays (Some near) x h = rw h

  -- no entry goes before the one that is picked
  picked_behind : (es : List QueueEntry) (o : Option QueueEntry) → Picked reference es o → All (Behind o) es
  picked_behind es None p = p
  picked_behind es (Some near) p =
      all_so (λ x. (lt (far x) (far near) ≡ false) × (eq (far x) (far near) ≡ true → near.joined ≤ x.joined)) (Behind (Some near))
      (λ x k. after_both (far x) x.joined (far near) near.joined k.0 k.1) es (all_both _ _ es p.smallest p.longest)

  -- where an entry doesn't, its copy doesn't: it is as far, and joined no earlier
  copy_behind : (o : Option QueueEntry) (e c : QueueEntry) → Copy e c → Behind o e → Behind o c
  copy_behind None e c copy h = rw copy.rating h
  copy_behind (Some near) e c copy h =
      rw copy.rating
      (after_both (far e) c.joined (far near) near.joined (after_far (far e) e.joined (far near) near.joined h)
      (λ t. omega (arith, copy.joined, after_tied (far e) e.joined (far near) near.joined h t)))

module _ (reference : Float) (used : List ℕ) (before between behind : List QueueEntry) (e c : QueueEntry) (copy : Copy e c) where
  -- those in front of the copy, and their pick
  abbrev front : List QueueEntry
  front = before ++ (e ∷ between)

  abbrev best : Option QueueEntry
  best = nearest reference used front

  -- a copy never takes the place of the nearest before it: e was seen
  copy_left : member c.player used ≡ false → closer reference best c ≡ best
  unfolding keep
  copy_left f =
      let g : member e.player used ≡ false = rw (← copy.player) f in
      let k : without_all used front ≡ without_all used before ++ (e ∷ without_all used between) =
      keep_append (λ x. not (is_of_any used x)) before (e ∷ between) ∙ rw g refl in
      let a = subst (All (Behind reference best)) k (picked_behind reference (without_all used front) best (nearest_picked reference used front)) in
      behind_stays reference best c (copy_behind reference best e c copy (all_middle (Behind reference best) (without_all used before) e (without_all used between) a))

  -- so the nearest of all is the same
  copy_nearest_front : nearest reference used (front ++ (c ∷ behind)) ≡ nearest reference used (front ++ behind)
  unfolding keep
  copy_nearest_front =
      rw (
        keep_append (λ x. not (is_of_any used x)) front (c ∷ behind),
        keep_append (λ x. not (is_of_any used x)) front behind,
        fold_append (closer reference) None (without_all used front) (without_all used (c ∷ behind)),
        fold_append (closer reference) None (without_all used front) (without_all used behind),
      )
      (cases (member c.player used) (λ t. rw t) (λ f. rw (f, copy_left f)))

-- ---- the anchors before

-- who is used stays used, behind any picks
filled_uses : (s : TeamComposition) (r : Roster) (queue : List QueueEntry) (left : ℕ) (f : Filling) → Within f.used (filled s r queue left f).used
unfolding filled
filled_uses s r queue zero f = within_self f.used
filled_uses s r queue (suc left) f = go (nearest f.reference f.used queue) (filled_uses s r queue left)
  where
    go : (o : Option QueueEntry) → ((g : Filling) → Within g.used (filled s r queue left g).used) → Within f.used (if_some o (λ e. filled s r queue left (picked s r f e)) f).used
    go None rest = within_self f.used
    go (Some e) rest = within_trans f.used (e.player ∷ f.used) (filled s r queue left (picked s r f e)).used (within_tail f.used e.player f.used (within_self f.used)) (rest (picked s r f e))

module _ (s : TeamComposition) (r : Roster) (queue : List QueueEntry) where
  -- behind an anchor everyone used before is used, and the anchor too
  anchored_uses : (o : Search) (e : QueueEntry) → Within (e.player ∷ o.used) (anchored s r queue o e).used
  unfolding anchored
  anchored_uses o e =
      cases (member e.player o.used) (λ t. rw t (t, within_self o.used)) (λ t. rw t (filled_uses s r queue (seats_left s) (opened o.used e)))

  -- and so behind any anchors
  anchors_use : (es : List QueueEntry) (o : Search) → Within o.used (foldl (anchored s r queue) o es).used
  anchors_use [] o = within_self o.used
  anchors_use (e ∷ es) o =
      within_trans o.used (anchored s r queue o e).used (foldl (anchored s r queue) o (e ∷ es)).used (anchored_uses o e).1 (anchors_use es (anchored s r queue o e))

  -- each of some anchors is used behind them
  anchor_used : (before between : List QueueEntry) (e : QueueEntry) (o : Search) → member e.player (foldl (anchored s r queue) o (before ++ (e ∷ between))).used ≡ true
  anchor_used [] between e o =
      member_within e.player (anchored s r queue o e).used (foldl (anchored s r queue) o (e ∷ between)).used (anchors_use between (anchored s r queue o e)) (anchored_uses o e).0
  anchor_used (x ∷ before) between e o = anchor_used before between e (anchored s r queue o x)

  -- so a copy behind it is skipped
  copy_skipped : (before between behind : List QueueEntry) (e c : QueueEntry) (o : Search) → c.player ≡ e.player → foldl (anchored s r queue) o ((before ++ (e ∷ between)) ++ (c ∷ behind)) ≡ foldl (anchored s r queue) o ((before ++ (e ∷ between)) ++ behind)
  unfolding anchored
  copy_skipped before between behind e c o p =
      let front : List QueueEntry = before ++ (e ∷ between) in
      let u : member c.player (foldl (anchored s r queue) o front).used ≡ true = rw p (anchor_used before between e o) in
      rw (fold_append (anchored s r queue) o front (c ∷ behind), fold_append (anchored s r queue) o front behind, u)

-- ---- two queues with the same picks

module _ (s : TeamComposition) (r : Roster) (queue other : List QueueEntry) (same : (reference : Float) (used : List ℕ) → nearest reference used other ≡ nearest reference used queue) where
  -- all picks of an anchor are the same
  same_filled : (left : ℕ) (f : Filling) → filled s r other left f ≡ filled s r queue left f
  unfolding filled
  same_filled zero f = refl
  same_filled (suc left) f =
      rw (same f.reference f.used) (go (nearest f.reference f.used queue) (same_filled left))
    where
      go : (o : Option QueueEntry) → ((g : Filling) → filled s r other left g ≡ filled s r queue left g) → if_some o (λ e. filled s r other left (picked s r f e)) f ≡ if_some o (λ e. filled s r queue left (picked s r f e)) f
      go None rest = refl
      go (Some e) rest = rest (picked s r f e)

  -- so is what comes of an anchor
  same_anchored : (o : Search) (e : QueueEntry) → anchored s r other o e ≡ anchored s r queue o e
  unfolding anchored
  same_anchored o e = rw (same_filled (seats_left s) (opened o.used e))

  -- and of any anchors
  same_anchors : (es : List QueueEntry) (o : Search) → foldl (anchored s r other) o es ≡ foldl (anchored s r queue) o es
  same_anchors [] o = refl
  same_anchors (e ∷ es) o = rw (same_anchored o e) (same_anchors es (anchored s r queue o e))

-- ---- any number of copies

-- one copy more
copy_same : (s : TeamComposition) (r : Roster) (before between behind : List QueueEntry) (e c : QueueEntry) → Copy e c →
    greedy_matches s r ((before ++ (e ∷ between)) ++ (c ∷ behind)) ≡ greedy_matches s r ((before ++ (e ∷ between)) ++ behind)
copy_same s r before between behind e c copy =
    let queue : List QueueEntry = (before ++ (e ∷ between)) ++ behind in
    let other : List QueueEntry = (before ++ (e ∷ between)) ++ (c ∷ behind) in
    ap (λ (o : Search). o.matches)
    (same_anchors s r queue other (λ reference used. copy_nearest_front reference used before between behind e c copy) other begun
    ∙ copy_skipped s r queue before between behind e c begun copy.player)

-- "adding later copies of an entry with the same guest and rating bits leaves every match the same"
pub greedy_copied : (s : TeamComposition) (r : Roster) (queue other : List QueueEntry) → Copied queue other → greedy_matches s r other ≡ greedy_matches s r queue
greedy_copied s r queue other plain = refl
greedy_copied s r queue other (more before between behind e c h copy) =
    let x = append_assoc before (e ∷ between) (c ∷ behind) in
    let y = append_assoc before (e ∷ between) behind in
    ap (greedy_matches s r) (sym x) ∙ copy_same s r before between behind e c copy ∙ ap (greedy_matches s r) y ∙ greedy_copied s r queue _ h
