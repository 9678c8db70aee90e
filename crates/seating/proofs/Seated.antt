-- What any search keeps that adds matches of unused players who wait: all seats are of different players, and all wait.
use Prim.Native.Nat.{ℕ, ◌≤◌, ◌<◌}
use mathlib.Core.Path.{◌≡◌, refl, sym, ap, ◌∙◌, subst}
use mathlib.Core.Bool.{true, false}
use mathlib.Core.List.{List, [], ◌∷◌, ◌++◌, append_assoc, append-nil, map}
use native.Mathlib.Omega.{arith}
use borrow.Author.Tests.{eqb-true}
use lib.Dec.{eqb, ltb}
use lib.ListN.{length, length-append}
use lib.Seq.{append_snoc}
use Rattle.base.specs.Lists.{seek, member, Distinct, Within, All}
use Rattle.base.proofs.Members.{Apart, member_head, distinct_append, within_append, within_tail, pigeonhole, distinct_insert, within_insert, apart_within, apart_insert}
use Rattle.base.proofs.Cases.{cases, never, pick}
use Rattle.queue.specs.declared.QueueEntry.{QueueEntry}
use Rattle.matchmaker.specs.Quality.{MatchState, seated}
use Rattle.seating.specs.declared.TeamComposition.{TeamComposition}
use Rattle.seating.specs.Seating.{seats, team}
use Rattle.seating.specs.Turns.{alone, takes_a, grown, complete}

-- ---- players who may be seated

-- these players are different, none of them is used, and all of them wait
pub record Free (used waiting ps : List ℕ) : Type 0 where
  pub different : Distinct ps
  pub unused : Apart ps used
  pub queued : Within ps waiting

-- one player alone
pub free_one : (used waiting : List ℕ) (p : ℕ) → member p used ≡ false → member p waiting ≡ true → Free used waiting (p ∷ [])
unfolding seek
free_one used waiting p h k = record { different = (refl, tt); unused = (h, tt); queued = (k, tt) }

-- one more, who is neither among them nor used, and waits
pub free_insert : (used waiting : List ℕ) (p : ℕ) (xs ys : List ℕ) → Free used waiting (xs ++ ys) → member p (xs ++ ys) ≡ false → member p used ≡ false → member p waiting ≡ true → Free used waiting (xs ++ (p ∷ ys))
free_insert used waiting p xs ys f n h k =
    record {
      different = distinct_insert p xs ys f.different n;
      unused = apart_insert p xs ys used f.unused h;
      queued = within_insert p xs ys waiting f.queued k;
    }

-- ---- a match while it fills

-- the sizes that the teams state are theirs
abbrev pub Stated : MatchState → Type 0
Stated m = (m.a.size ≡ length m.a.players) × (m.b.size ≡ length m.b.players)

-- somebody, the anchor, sits in A
abbrev pub Opened : MatchState → Type 0
Opened m = 0 < length m.a.players

-- its players may be seated, its teams state their own sizes, and A has the anchor
pub record Fresh (used waiting : List ℕ) (m : MatchState) : Type 0 where
  pub free : Free used waiting (seated m)
  pub stated : Stated m
  pub opened : Opened m

-- the match that an anchor opens
pub fresh_alone : (used waiting : List ℕ) (p : ℕ) → member p used ≡ false → member p waiting ≡ true → Fresh used waiting (alone p)
fresh_alone used waiting p h k = record { free = free_one used waiting p h k; stated = (refl, refl); opened = omega arith }

-- what holds of the match with the player in A, with the player in B, and as it is, holds of it with the player by turn
pub grown_elim : (P : MatchState → Type 0) (s : TeamComposition) (m : MatchState) (p : ℕ) → P (record { a = team (m.a.players ++ (p ∷ [])); b = m.b }) → P (record { a = m.a; b = team (m.b.players ++ (p ∷ [])) }) → P m → P (grown s m p)
unfolding grown
grown_elim P s m p x y z = pick P (takes_a s m) x (pick P (ltb (length m.b.players) s.b) y z)

-- the player sits somewhere among the others, or nothing changes
pub grown_seated : (P : List ℕ → Type 0) (s : TeamComposition) (m : MatchState) (p : ℕ) → ((xs ys : List ℕ) → seated m ≡ xs ++ ys → P (xs ++ (p ∷ ys))) → P (seated m) → P (seated (grown s m p))
grown_seated P s m p more same =
    let a = m.a.players in
    let b = m.b.players in
    grown_elim (λ x. P (seated x)) s m p (subst P (sym (append_snoc a p b)) (more a b refl))
    (subst P (append_assoc a b (p ∷ [])) (more (a ++ b) [] (sym (append-nil (a ++ b))))) same

-- so whoever sits then sat before, or is that player
pub within_grown : (s : TeamComposition) (m : MatchState) (p : ℕ) (used : List ℕ) → Within (seated m) used → Within (seated (grown s m p)) (p ∷ used)
within_grown s m p used w =
    let v = within_tail (seated m) p used w in
    grown_seated (λ l. Within l (p ∷ used)) s m p
    (λ xs ys e. within_insert p xs ys (p ∷ used) (subst (λ (l : List ℕ). Within l (p ∷ used)) e v) (member_head p used)) v

-- one more player, who is neither seated here nor used, and waits
pub fresh_grown : (s : TeamComposition) (used waiting : List ℕ) (m : MatchState) (p : ℕ) → Fresh used waiting m → member p (seated m) ≡ false → member p used ≡ false → member p waiting ≡ true → Fresh used waiting (grown s m p)
fresh_grown s used waiting m p f n h k =
    record {
      free =
          grown_seated (Free used waiting) s m p
          (λ xs ys e. free_insert used waiting p xs ys (subst (Free used waiting) e f.free) (subst (λ (l : List ℕ). member p l ≡ false) e n) h k) f.free;
      stated = grown_elim Stated s m p (refl, f.stated.1) (f.stated.0, refl) f.stated;
      opened = grown_elim Opened s m p (omega (arith, length-append m.a.players (p ∷ []), f.opened)) f.opened f.opened;
    }

-- ---- the matches so far

-- everyone whom these matches seat is different, so nobody sits twice, and everyone waits
pub record Seated (waiting : List ℕ) (ms : List MatchState) : Type 0 where
  pub different : Distinct (seats ms)
  pub queued : Within (seats ms) waiting

-- a match more seats its players behind the others
pub seats_add : (ms : List MatchState) (m : MatchState) → seats (ms ++ (m ∷ [])) ≡ seats ms ++ seated m
unfolding seats
seats_add [] m = append-nil (seated m)
seats_add (x ∷ ms) m = ap (λ (l : List ℕ). seated x ++ l) (seats_add ms m) ∙ sym (append_assoc (seated x) (seats ms) (seated m))

-- without a match nobody is seated
pub seated_none : (waiting : List ℕ) → Seated waiting []
unfolding seats
seated_none waiting = record { different = tt; queued = tt }

-- a match more, of players none of whom is used, where everyone seated before is used
pub seated_add : (used waiting : List ℕ) (ms : List MatchState) (m : MatchState) → Seated waiting ms → Within (seats ms) used → Free used waiting (seated m) → Seated waiting (ms ++ (m ∷ []))
seated_add used waiting ms m s w f =
    record {
      different = rw (seats_add ms m) (distinct_append (seats ms) (seated m) s.different f.different (apart_within (seated m) (seats ms) used w f.unused));
      queued = rw (seats_add ms m) (within_append (seats ms) (seated m) waiting s.queued f.queued);
    }

-- the seats are no more than those who wait
pub seated_room : (waiting : List ℕ) (ms : List MatchState) → Seated waiting ms → length (seats ms) ≤ length waiting
seated_room waiting ms s = pigeonhole (seats ms) waiting s.different s.queued

-- ---- a match that is formed

-- "its teams of exactly A and B guests"
abbrev pub Sized : TeamComposition → MatchState → Type 0
Sized s m = (length m.a.players ≡ s.a) × (length m.b.players ≡ s.b)

-- its teams are of exactly the sizes asked for, and state them; A is not empty
pub record Formed (s : TeamComposition) (m : MatchState) : Type 0 where
  pub sized : Sized s m
  pub stated : Stated m
  pub opened : Opened m

-- the test is that the sizes are those
pub complete_sized : (s : TeamComposition) (m : MatchState) → complete s m ≡ true → Sized s m
complete_sized s m h =
    cases (eqb (length m.a.players) s.a)
    (λ t. (eqb-true (length m.a.players) s.a t, eqb-true (length m.b.players) s.b (rw t at h)))
    (λ f. never (let e : false ≡ true = rw f at h in cc))

-- a match that is complete may be formed
pub fresh_formed : (s : TeamComposition) (used waiting : List ℕ) (m : MatchState) → Fresh used waiting m → complete s m ≡ true → Formed s m
fresh_formed s used waiting m f h = record { sized = complete_sized s m h; stated = f.stated; opened = f.opened }

-- where A is 0 nothing is formed
pub formed_none : (s : TeamComposition) (ms : List MatchState) → s.a ≡ 0 → All (Formed s) ms → ms ≡ []
formed_none s [] e f = refl
formed_none s (m ∷ ms) e f = absurd (omega (arith, f.0.opened, f.0.sized.0))

-- the players of a queue
abbrev pub waiting_of : List QueueEntry → List ℕ
waiting_of = map (λ e. e.player)

-- where the players of a queue all wait, the player of each entry does
pub all_waiting : (queue : List QueueEntry) (waiting : List ℕ) → Within (waiting_of queue) waiting → All (λ e. member e.player waiting ≡ true) queue
all_waiting [] waiting w = tt
all_waiting (e ∷ queue) waiting w = (w.0, all_waiting queue waiting w.1)
