-- Document 02, 2.3: waiting friends ask what a user would say that they ask.
use Prim.Native.Nat.{ℕ}
use mathlib.Core.Path.{◌≡◌, refl, sym, ◌∙◌}
use mathlib.Core.Bool.{Bool, true, false, not, ◌&&◌, ◌||◌}
use mathlib.Core.Logic.{◌⊎◌, inl, inr}
use mathlib.Core.List.{List, Memᴰ}
use borrow.Author.Tests.{eqb-true, eqb-false, eq-eqb, ne_eqb, not-true}
use lib.Dec.{eqb}
use Rattle.base.specs.Lists.{any, member}
use Rattle.base.proofs.Cases.{cases, never}
use Rattle.base.proofs.Checks.{both_hold}
use Rattle.base.proofs.Every.{so_holds, holds_so, any_of, every_in, every_from, any_in, any_from}
use Rattle.queue.specs.declared.QueueEntry.{QueueEntry}
use Rattle.matchmaker.specs.Quality.{MatchState, seated}
use Rattle.constraint.specs.Constraints.{constraints_hold}
use Rattle.choice.specs.Friends.{waits_in, is_friend_of, friends_seated}
use Rattle.choice.specs.Full.{Terms, passes}
use Rattle.choice.specs.WaitingFriends.{Together, Whole, Absent, WaitingFriends}

module _ (waiting : List QueueEntry) (m : MatchState) where
  abbrev guests : List ℕ
  guests = seated m

  -- who waits with a party waits with it
  waits : (d : QueueEntry) (party : ℕ) → Memᴰ d waiting → d.party ≡ party → waits_in waiting party d.player ≡ true
  waits d party w e =
      any_in (λ x. eqb x.player d.player && eqb x.party party) waiting w (rw (eq-eqb d.player d.player refl, eq-eqb d.party party e))

  -- no seated guest has a waiting friend who is not seated
  pub none_left : friends_seated waiting m ≡ true → Together waiting m
  none_left h d e f s =
      let n : eqb e.party 0 ≡ false = ne_eqb e.party 0 (λ z. f.some (sym f.party ∙ z)) in
      let k : any (waits_in waiting e.party) guests ≡ true = any_of (waits_in waiting e.party) d.player guests s (waits d e.party f.one (sym f.party)) in
      holds_so (is_friend_of waiting guests e) (member e.player guests) (every_in (λ x. not (is_friend_of waiting guests x) || member x.player guests) waiting h f.other)
      (rw (n, k))

  -- where there is no such friend, whoever must be seated is
  friend_sits : Together waiting m → (e : QueueEntry) → Memᴰ e waiting → is_friend_of waiting guests e ≡ true → member e.player guests ≡ true
  friend_sits t e w h =
      let b = both_hold (not (eqb e.party 0)) (any (waits_in waiting e.party) guests) h in
      let p = any_from (waits_in waiting e.party) guests b.1 in
      let d = any_from (λ x. eqb x.player p.0 && eqb x.party e.party) waiting p.1.1 in
      let s = both_hold (eqb d.0.player p.0) (eqb d.0.party e.party) d.1.1 in
      let same : d.0.party ≡ e.party = eqb-true d.0.party e.party s.1 in
      let nonzero : e.party ≡ 0 → ⊥ = eqb-false e.party 0 (not-true (eqb e.party 0) b.0) in
      t d.0 e (record { one = d.1.0; other = w; party = sym same; some = λ z. nonzero (sym same ∙ z) })
      (any_in (λ x. eqb x d.0.player) guests p.1.0 (eq-eqb p.0 d.0.player (sym (eqb-true d.0.player p.0 s.0))))

  -- and no more is asked
  all_asked : Together waiting m → friends_seated waiting m ≡ true
  all_asked t =
      every_from (λ e. not (is_friend_of waiting guests e) || member e.player guests) waiting
      (λ e w. so_holds (is_friend_of waiting guests e) (member e.player guests) (friend_sits t e w))

  -- a table seats a party whole or not at all
  whole_or_absent : friends_seated waiting m ≡ true → (party : ℕ) → (party ≡ 0 → ⊥) → Whole waiting m party ⊎ Absent waiting m party
  whole_or_absent h party some = go (any sits waiting) refl
    where
      sits : QueueEntry → Bool
      sits e = eqb e.party party && member e.player guests

      go : (b : Bool) → any sits waiting ≡ b → Whole waiting m party ⊎ Absent waiting m party
      go true t =
          let d = any_from sits waiting t in
          let s = both_hold (eqb d.0.party party) (member d.0.player guests) d.1.1 in
          let same : d.0.party ≡ party = eqb-true d.0.party party s.0 in
          inl (λ e w i. none_left h d.0 e (record { one = d.1.0; other = w; party = i ∙ sym same; some = λ z. some (sym same ∙ z) }) s.1)
      go false k =
          inr
          (λ e w i.
          cases (member e.player guests)
          (λ t. never (let z = any_in sits waiting w (rw (eq-eqb e.party party i, t)) in cc))
          (λ f. f))

module _ (t : Terms) (waiting : List QueueEntry) (m : MatchState) where
  -- a choice that passes meets the constraints and, if they are brought, leaves no waiting friend
  pub passes_both : passes t waiting m ≡ true → (constraints_hold t.roster t.constraints m ≡ true) × (t.waiting_friends ≡ true → Together waiting m)
  passes_both h =
      let b = both_hold (constraints_hold t.roster t.constraints m) (not t.waiting_friends || friends_seated waiting m) h in
      (b.0, λ on. none_left waiting m (holds_so t.waiting_friends (friends_seated waiting m) b.1 on))

  -- and one that does so passes
  both_passes : (constraints_hold t.roster t.constraints m ≡ true) × (t.waiting_friends ≡ true → Together waiting m) → passes t waiting m ≡ true
  both_passes b =
      rw b.0 (so_holds t.waiting_friends (friends_seated waiting m) (λ on. all_asked waiting m (b.1 on)))

pub waiting_friends_lem : WaitingFriends
waiting_friends_lem =
    record {
      whole = whole_or_absent;
      none_left = λ waiting m. (none_left waiting m, all_asked waiting m);
      both = λ t waiting m. (passes_both t waiting m, both_passes t waiting m);
      at_home = λ r parties c friends objectives count waiting m e. rw e;
    }
