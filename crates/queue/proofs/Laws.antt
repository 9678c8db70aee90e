-- Laws of the queue over plain lists: one for each answer that a function gives, and what the definitions mean together.
use Rattle.std.proofs.Common.{◌≡◌, ℕ, ◌+◌, ◌<◌, ◌≤◌, min, true, false, not, eqb, List, [], ◌∷◌, ◌++◌, map, length, get_or, take, drop, set, sym, refl, ap, ◌∙◌, arith, length-set, length-take-le, get_or-take, eq-eqb, eqb-true}
use Rattle.std.specs.Prelude.{None, Some}
use borrow.Author.Tests.{lt-leb}
use Rattle.base.specs.Lists.{seek, any, keep, place, remove_first, member, All}
use Rattle.base.proofs.Cases.{cases, never}
use Rattle.base.proofs.Arrays.{push, first_many, take_held}
use Rattle.base.proofs.Members.{absent_head, absent_tail, absent_cons, stay_nobody, length_parted}
use Rattle.base.proofs.Loops.{keep_end_of, shift_end, gap_closed, removed_none, seek_at, seek_none, seek_map}
use Rattle.base.specs.Refusals.{refused, gives}
use Rattle.queue.specs.Time.{time_over, since}
use Rattle.queue.specs.Queue.{Enqueuing, enqueue_rule, first_wait, QueueState, holding, is_of, is_of_any, joined_over, Removing, taking, Parting, parting, first_of, without_first, without_all, of_all}
use Rattle.queue.specs.Columns.{no_entry}
use Rattle.queue.specs.declared.QueueEntry.{QueueEntry}

-- ---- a queue of just what was written

-- the first k of an array are a queue of k
pub stands : (out : List QueueEntry) (k : ℕ) (w : List QueueEntry) → k ≤ length out → take k out ≡ w → ◌≡◌ {A = QueueState} (record { size = k; entries = take k out }) (holding w)
stands out k w h e =
    let s : k ≡ length w = first_many out k w h e in
    λ j. record { size = s j; entries = e j }

-- a row that is moved up by one as far as it goes
pub closed : (es : List QueueEntry) (n : ℕ) (out w : List QueueEntry) (k : ℕ) → n ≤ length es → k ≤ length out → k + 1 ≡ n → take k out ++ drop (k + 1) (take n es) ≡ w → ◌≡◌ {A = QueueState} (record { size = k; entries = take k out }) (holding w)
closed es n out w k fits room h inv = stands out k w room (shift_end es n out w k no_entry fits h inv)

-- ---- take_first and first_wait

module _ (es : List QueueEntry) (len n at p : ℕ) (long : length es ≡ 64) (clamped : n ≡ min len 64) (found : at ≡ place (is_of p) (take n es)) where
  -- the clamped length holds what the stated one holds
  same : take n es ≡ take len es
  same = ap (λ (m : ℕ). take m es) clamped ∙ take_held es len 64 long

  -- and that many
  full : length (take n es) ≡ n
  full = length-take-le n es (omega arith)

  -- nobody of that player waits: the queue stays, and nobody is handed out
  pub took_nobody : n ≤ at → ◌≡◌ {A = Removing} (record { queue = record { size = n; entries = take n es }; taken = gives None }) (taking p (take len es))
  took_nobody h =
      let past : length (take n es) ≤ place (is_of p) (take n es) = omega (arith, full) in
      let w : take n es ≡ without_first p (take n es) = sym (removed_none (is_of p) (take n es) past) in
      let q : ◌≡◌ {A = QueueState} (record { size = n; entries = take n es }) (holding (without_first p (take n es))) = stands es n (without_first p (take n es)) (omega arith) w in
      let t : None ≡ first_of p (take n es) = sym (seek_none (is_of p) Some None no_entry (take n es) past) in
      rw (← same) (λ j. record { queue = q j; taken = gives (t j) })

  -- the entry at its place is handed out, and the row without it stays
  pub took_entry : (s : QueueState) → at < n → s ≡ holding (take at (take n es) ++ drop (at + 1) (take n es)) → ◌≡◌ {A = Removing} (record { queue = s; taken = gives (Some (get_or es at no_entry)) }) (taking p (take len es))
  took_entry s h e =
      let in_row : place (is_of p) (take n es) < length (take n es) = omega (arith, full) in
      let q : s ≡ holding (without_first p (take n es)) = e ∙ ap holding (gap_closed (is_of p) (take n es) at found) in
      let t : Some (get_or es at no_entry) ≡ first_of p (take n es) =
      ap Some (sym (get_or-take n es at no_entry h) ∙ ap (λ (m : ℕ). get_or (take n es) m no_entry) found) ∙ sym (seek_at (is_of p) Some None no_entry (take n es) in_row) in
      rw (← same) (λ j. record { queue = q j; taken = gives (t j) })

  -- the wait of the entry at its place
  pub waited : (clock t : ℕ) → at < n → t ≡ since clock (get_or es at no_entry).joined → Some t ≡ first_wait p clock (take len es)
  waited clock t h e =
      let in_row : place (is_of p) (take n es) < length (take n es) = omega (arith, full) in
      let w : get_or es at no_entry ≡ get_or (take n es) (place (is_of p) (take n es)) no_entry = sym (get_or-take n es at no_entry h) ∙ ap (λ (m : ℕ). get_or (take n es) m no_entry) found in
      rw (← same)
      (ap Some e ∙ ap (λ (x : QueueEntry). Some (since clock x.joined)) w ∙ sym (seek_at (is_of p) (λ x. Some (since clock x.joined)) None no_entry (take n es) in_row))

  -- nobody of that player waits: no wait
  pub waited_nobody : (clock : ℕ) → n ≤ at → None ≡ first_wait p clock (take len es)
  waited_nobody clock h =
      let past : length (take n es) ≤ place (is_of p) (take n es) = omega (arith, full) in
      rw (← same) (sym (seek_none (is_of p) (λ e. Some (since clock e.joined)) None no_entry (take n es) past))

-- ---- take_all

module _ (ps : List ℕ) (es : List QueueEntry) (len n : ℕ) (long : length es ≡ 64) (clamped : n ≡ min len 64) where
  -- both rows are written as far as the queue goes
  pub parted : (stay gone : List QueueEntry) (k m i : ℕ) → length stay ≡ 64 → length gone ≡ 64 → k ≤ i → m ≤ i → n ≤ i → i ≤ n → take k stay ++ without_all ps (drop i (take n es)) ≡ without_all ps (take n es) → take m gone ++ of_all ps (drop i (take n es)) ≡ of_all ps (take n es) → ◌≡◌ {A = Parting} (record { kept = record { size = k; entries = take k stay }; removed = record { size = m; entries = take m gone }; answer = gives tt }) (parting ps (take len es))
  parted stay gone k m i ls lg hk hm h1 h2 ik im =
      let same : take n es ≡ take len es = ap (λ (j : ℕ). take j es) clamped ∙ take_held es len 64 long in
      let a = stands stay k (without_all ps (take n es)) (omega arith) (keep_end_of (λ e. not (is_of_any ps e)) es n stay k i (omega arith) ik h1 h2) in
      let b = stands gone m (of_all ps (take n es)) (omega arith) (keep_end_of (is_of_any ps) es n gone m i (omega arith) im h1 h2) in
      rw (← same) (λ j. record { kept = a j; removed = b j; answer = gives tt })

-- a refused batch removes nobody
pub nobody_removed : (q s : QueueState) (n : ℕ) → s ≡ holding [] → ◌≡◌ {A = Parting} (record { kept = q; removed = s; answer = refused n }) (record { kept = q; removed = holding []; answer = refused n })
nobody_removed q s n e = λ j. record { kept = q; removed = e j; answer = refused n }

-- ---- enqueue

-- an entry stored behind the first n is appended to them
pub appended : (es : List QueueEntry) (n : ℕ) (e : QueueEntry) → length es ≡ 64 → n < 64 → joined_over e ≡ false → any joined_over (take n es) ≡ false → ◌≡◌ {A = Enqueuing} (record { queue = record { size = n + 1; entries = take (n + 1) (set es n e) }; answer = gives tt }) (enqueue_rule (record { size = n; entries = take n es }) e)
appended es n e l h new old =
    let room : n + 1 ≤ length (set es n e) = simp length-set (omega arith) in
    let q = stands (set es n e) (n + 1) (take n es ++ (e ∷ [])) room (push es n e (omega arith)) in
    rw (lt-leb 64 n h, new, old) (λ j. record { queue = q j; answer = gives tt })

-- ---- the joined times apart

-- an entry's joined time is above 2^53 where that of the column is
pub over_column : (es : List QueueEntry) → any time_over (map (λ e. e.joined) es) ≡ any joined_over es
over_column es = seek_map (λ (e : QueueEntry). e.joined) time_over (λ t. true) false es

-- ---- what the definitions mean together

-- who waits
abbrev pub players : List QueueEntry → List ℕ
players = map (λ e. e.player)

-- a player who was not waiting and is enqueued: removing the player gives the queue back
pub withdrawn : (e : QueueEntry) (es : List QueueEntry) → member e.player (players es) ≡ false → without_first e.player (es ++ (e ∷ [])) ≡ es
unfolding remove_first
withdrawn e [] h = rw (eq-eqb e.player e.player refl)
withdrawn e (x ∷ es) h =
    rw (absent_head e.player x.player (players es) h)
    (ap (λ (r : List QueueEntry). x ∷ r) (withdrawn e es (absent_tail e.player x.player (players es) h)))

-- and the entry that is handed out is the one that was enqueued
pub handed_back : (e : QueueEntry) (es : List QueueEntry) → member e.player (players es) ≡ false → first_of e.player (es ++ (e ∷ [])) ≡ Some e
unfolding seek
handed_back e [] h = rw (eq-eqb e.player e.player refl)
handed_back e (x ∷ es) h = rw (absent_head e.player x.player (players es) h) (handed_back e es (absent_tail e.player x.player (players es) h))

-- who stays and who leaves are together as many as waited
pub none_lost : (ps : List ℕ) (es : List QueueEntry) → length (without_all ps es) + length (of_all ps es) ≡ length es
none_lost ps es = omega (arith, length_parted (is_of_any ps) es)

-- nobody who was named still waits
pub none_left : (p : ℕ) (ps : List ℕ) (es : List QueueEntry) → member p ps ≡ true → member p (players (without_all ps es)) ≡ false
unfolding keep seek
none_left p ps [] h = refl
none_left p ps (e ∷ es) h =
    let r = none_left p ps es h in
    cases (is_of_any ps e) (λ t. rw t r)
    (λ f. rw f (absent_cons p e.player (players (without_all ps es)) (cases (eqb e.player p) (λ t. never (let k : true ≡ false = sym h ∙ (rw (eqb-true e.player p t) at f) in cc)) (λ g. g)) r))

-- everyone who left was named
pub all_named : (ps : List ℕ) (es : List QueueEntry) → All (λ e. member e.player ps ≡ true) (of_all ps es)
unfolding keep
all_named ps [] = tt
all_named ps (e ∷ es) = cases (is_of_any ps e) (λ t. rw t (t, all_named ps es)) (λ f. rw f (all_named ps es))

-- nobody leaves a queue where nobody is named
pub none_named : (es : List QueueEntry) → without_all [] es ≡ es
none_named = stay_nobody (λ e. e.player)
