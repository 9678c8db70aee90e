-- Waiting friends as sets of places: the places of a guest's friends, and that all who are expected with those seated are seated.
use Prim.Native.Nat.{ℕ}
use mathlib.Core.Path.{◌≡◌, refl, sym, ap, ◌∙◌}
use mathlib.Core.Bool.{Bool, true, false, not, ◌&&◌, ◌||◌, and-false}
use mathlib.Core.List.{List, [], ◌∷◌, map}
use borrow.Author.Tests.{eqb-true, eq-eqb}
use lib.Dec.{eqb}
use Rattle.base.specs.Lists.{seek, any, every, member}
use Rattle.base.proofs.Cases.{cases}
use Rattle.base.proofs.Every.{every_alike, every_both, every_passes, any_never, any_either}
use Rattle.base.proofs.Loops.{seek_map}
use Rattle.base.proofs.Members.{eqb_sym}
use Rattle.queue.specs.declared.QueueEntry.{QueueEntry}
use Rattle.choice.specs.Friends.{is_friend_of}
use Rattle.choice.specs.Reading.{marks, pooled, players_of, invites}
use Rattle.choice.proofs.MarkLaws.{marks_never, marks_alike, marks_or}

-- ---- the places of a guest's friends

-- the sets of all entries of a guest together
pooled_marks : {A : Type 0} (f : QueueEntry → A → Bool) (xs : List A) (p : ℕ) (ds : List QueueEntry) → pooled p (players_of ds) (map (λ d. marks (f d) xs) ds) ≡ marks (λ x. any (λ d. eqb d.player p && f d x) ds) xs
unfolding pooled seek
pooled_marks f xs p [] = sym (marks_never xs)
pooled_marks f xs p (d ∷ ds) =
    cases (eqb d.player p)
    (λ t.
    rw (t, pooled_marks f xs p ds) (marks_or (f d) (λ x. any (λ d. eqb d.player p && f d x) ds) xs)
    ∙ marks_alike (λ x. f d x || any (λ d. eqb d.player p && f d x) ds) (λ x. any (λ d. eqb d.player p && f d x) (d ∷ ds)) (λ x. rw t (cases (f d x) (λ u. rw u) (λ v. rw v))) xs)
    (λ k. rw (k, pooled_marks f xs p ds))

-- has e the party of d, which is one?
abbrev pub shares : QueueEntry → QueueEntry → Bool
shares d e = not (eqb d.party 0) && eqb e.party d.party

-- e shares no party where it has none, and else that of d where both have the same
shares_none : (d e : QueueEntry) → eqb e.party 0 ≡ true → shares d e ≡ false
shares_none d e z =
    let o : e.party ≡ 0 = eqb-true e.party 0 z in
    rw (o, eqb_sym 0 d.party) (cases (eqb d.party 0) (λ t. rw t) (λ k. rw k))

shares_one : (d e : QueueEntry) → eqb e.party 0 ≡ false → shares d e ≡ eqb d.party e.party
shares_one d e n =
    cases (eqb d.party e.party)
    (λ t. let o : d.party ≡ e.party = eqb-true d.party e.party t in rw (t, o, n, eq-eqb e.party e.party refl))
    (λ k. rw (k, eqb_sym e.party d.party, k) (cases (eqb d.party 0) (λ u. rw u) (λ v. rw v)))

-- an entry shares a party with one of the guest's where it is a friend's
shared : (es : List QueueEntry) (p : ℕ) (e : QueueEntry) → any (λ d. eqb d.player p && shares d e) es ≡ invites true es p e
shared es p e =
    cases (eqb e.party 0)
    (λ t.
    ap (λ (f : QueueEntry → Bool). any f es) (λ j d. (ap (λ (b : Bool). eqb d.player p && b) (shares_none d e t) ∙ and-false (eqb d.player p)) j)
    ∙ any_never es
    ∙ rw t)
    (λ k. ap (λ (f : QueueEntry → Bool). any f es) (λ j d. eqb d.player p && shares_one d e k j) ∙ rw k)

-- the sets of those who share a party with each entry, of all entries of a guest together, are the places of the guest's friends
pub friends_pooled : (es : List QueueEntry) (p : ℕ) → pooled p (players_of es) (map (λ d. marks (shares d) es) es) ≡ marks (invites true es p) es
friends_pooled es p =
    pooled_marks shares es p es ∙ marks_alike (λ e. any (λ d. eqb d.player p && shares d e) es) (invites true es p) (shared es p) es

-- ---- all who are expected

-- who must be seated for one of two reasons must be for each
two_reasons : (a b c : Bool) → (not (a || b) || c) ≡ ((not a || c) && (not b || c))
two_reasons true true true = refl
two_reasons true true false = refl
two_reasons true false true = refl
two_reasons true false false = refl
two_reasons false true true = refl
two_reasons false true false = refl
two_reasons false false c = refl

module _ (es : List QueueEntry) (ps : List ℕ) where
  -- an entry is a friend's of one of these guests
  invited : (e : QueueEntry) → any (λ p. invites true es p e) ps ≡ is_friend_of es ps e
  invited e = cases (eqb e.party 0) (λ t. rw t (any_never ps)) (λ k. rw k)

  -- friends who wait are seated, if they are brought
  friends_told : (on : Bool) → every (λ e. not (any (λ p. invites on es p e) ps) || member e.player ps) es ≡ (not on || every (λ e. not (is_friend_of es ps e) || member e.player ps) es)
  friends_told true =
      every_alike (λ e. not (any (λ p. invites true es p e) ps) || member e.player ps) (λ e. not (is_friend_of es ps e) || member e.player ps)
      (λ e. ap (λ (b : Bool). not b || member e.player ps) (invited e)) es
  friends_told false = every_passes (λ e. not (any (λ p. false) ps) || member e.player ps) (λ e. rw (any_never ps)) es

  -- all who are expected are seated, by one test of two players, or as friends who wait
  pub expected_told : (f : ℕ → ℕ → Bool) (on : Bool)
      → every (λ e. not (any (λ p. f p e.player || invites on es p e) ps) || member e.player ps) es
      ≡ (every (λ q. not (any (λ p. f p q) ps) || member q ps) (players_of es) && (not on || every (λ e. not (is_friend_of es ps e) || member e.player ps) es))
  expected_told f on =
      let a : QueueEntry → Bool = λ e. not (any (λ p. f p e.player) ps) || member e.player ps in
      let b : QueueEntry → Bool = λ e. not (any (λ p. invites on es p e) ps) || member e.player ps in
      every_alike (λ e. not (any (λ p. f p e.player || invites on es p e) ps) || member e.player ps) (λ e. a e && b e)
      (λ e.
      ap (λ (x : Bool). not x || member e.player ps) (any_either (λ p. f p e.player) (λ p. invites on es p e) ps)
      ∙ two_reasons (any (λ p. f p e.player) ps) (any (λ p. invites on es p e) ps) (member e.player ps))
      es
      ∙ every_both a b es
      ∙ ap (λ (x : Bool). x && every b es) (sym (seek_map (λ (e : QueueEntry). e.player) (λ q. not (not (any (λ p. f p q) ps) || member q ps)) (λ x. false) true es))
      ∙ ap (λ (x : Bool). every (λ q. not (any (λ p. f p q) ps) || member q ps) (players_of es) && x) (friends_told on)
