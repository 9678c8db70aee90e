-- The counted picks of an anchor are the Rust's own loop: it goes on while a team is short, and ends where there is no pick.
use Prim.Native.Nat.{ℕ, zero, suc, ◌≤◌}
use mathlib.Core.Path.{◌≡◌, refl, sym, ap, ◌∙◌}
use mathlib.Core.Bool.{Bool, true, false, cond}
use mathlib.Core.Logic.{◌⊎◌, inl, inr}
use mathlib.Core.List.{List, ◌∷◌}
use Rattle.std.specs.Prelude.{Option, None, Some}
use native.Mathlib.Omega.{arith}
use Rattle.queue.specs.declared.QueueEntry.{QueueEntry}
use Rattle.roster.specs.Roster.{Roster}
use Rattle.matchmaker.specs.Quality.{MatchState}
use Rattle.seating.specs.declared.TeamComposition.{TeamComposition}
use Rattle.seating.specs.Turns.{seats_left, takes_a}
use Rattle.greedy.specs.Greedy.{Filling, nearest, opened, reference_of, picked, if_some, filled}
use Rattle.seating.proofs.TurnLaws.{short, pushed, left, Fits, short_left, full_left, grown_pushed, pushed_left, pushed_fits}

-- ---- the Rust's loop

-- the anchor's teams after a pick: the match as it is then, and the reference
abbrev pub after : Roster → Filling → QueueEntry → Bool → MatchState → Filling
after r f e ofA m =
    record { used = e.player ∷ f.used; teams = m; reference = cond ofA (reference_of r m.a.players) f.reference }

-- n rounds of the loop at most
unfoldable pub while_short : TeamComposition → Roster → List QueueEntry → ℕ → Filling → Filling
while_short s r queue zero f = f
while_short s r queue (suc n) f =
    cond (short s f.teams)
    (if_some (nearest f.reference f.used queue) (λ e. while_short s r queue n (after r f e (takes_a s f.teams) (pushed s f.teams e.player))) f)
    f

-- ---- the loop and the count

module _ (s : TeamComposition) (r : Roster) (queue : List QueueEntry) where
  -- the anchor's teams after a pick, by the definition and by the Rust
  picked_pushed : (f : Filling) (e : QueueEntry) → Fits s f.teams → short s f.teams ≡ true → picked s r f e ≡ after r f e (takes_a s f.teams) (pushed s f.teams e.player)
  picked_pushed f e l h = ap (after r f e (takes_a s f.teams)) (grown_pushed s f.teams e.player l h)

  -- a round of the loop, and what comes behind it
  while_on : (k n : ℕ) → ((f : Filling) → left s f.teams ≡ k → Fits s f.teams → while_short s r queue n f ≡ filled s r queue k f) →
      (f : Filling) → left s f.teams ≡ suc k → Fits s f.teams → short s f.teams ≡ true → (o : Option QueueEntry) →
      if_some o (λ e. while_short s r queue n (after r f e (takes_a s f.teams) (pushed s f.teams e.player))) f
      ≡ if_some o (λ e. filled s r queue k (picked s r f e)) f
  while_on k n rest f e l h None = refl
  while_on k n rest f e l h (Some x) =
      rest (after r f x (takes_a s f.teams) (pushed s f.teams x.player)) (pushed_left s f.teams x.player l h k e) (pushed_fits s f.teams x.player l h)
      ∙ ap (filled s r queue k) (sym (picked_pushed f x l h))

  -- from any teams, with the count of their seats left
  while_from : (k n : ℕ) → k ≤ n → (f : Filling) → left s f.teams ≡ k → Fits s f.teams → while_short s r queue n f ≡ filled s r queue k f
  unfolding while_short filled
  while_from zero zero h f e l = refl
  while_from zero (suc n) h f e l = rw (full_left s f.teams e)
  while_from (suc k) zero h f e l = absurd (omega arith)
  while_from (suc k) (suc n) h f e l =
      let t = short_left s f.teams k e in
      rw t (while_on k n (while_from k n (omega arith)) f e l t (nearest f.reference f.used queue))

  -- of any number of rounds that is not below the count the loop makes what the counted picks make
  pub filled_while : (n : ℕ) (used : List ℕ) (e : QueueEntry) → seats_left s ≤ n → while_short s r queue n (opened used e) ≡ filled s r queue (seats_left s) (opened used e)
  filled_while n used e h = while_from (seats_left s) n h (opened used e) (omega arith) (omega arith)

  -- the loop has ended: no team is short, or there is no pick
  abbrev pub Ended : Filling → Type 0
  Ended f = (short s f.teams ≡ false) ⊎ (nearest f.reference f.used queue ≡ None)

  -- a pick, and what comes behind it
  ended_on : (k : ℕ) → ((f : Filling) → left s f.teams ≡ k → Fits s f.teams → Ended (filled s r queue k f)) →
      (f : Filling) → left s f.teams ≡ suc k → Fits s f.teams → (o : Option QueueEntry) → nearest f.reference f.used queue ≡ o →
      Ended (if_some o (λ e. filled s r queue k (picked s r f e)) f)
  ended_on k rest f e l None h = inr h
  ended_on k rest f e l (Some x) h =
      let t = short_left s f.teams k e in
      rw (picked_pushed f x l t)
      (rest (after r f x (takes_a s f.teams) (pushed s f.teams x.player)) (pushed_left s f.teams x.player l t k e) (pushed_fits s f.teams x.player l t))

  -- from any teams
  ended_from : (k : ℕ) (f : Filling) → left s f.teams ≡ k → Fits s f.teams → Ended (filled s r queue k f)
  unfolding filled
  ended_from zero f e l = inl (full_left s f.teams e)
  ended_from (suc k) f e l = ended_on k (ended_from k) f e l (nearest f.reference f.used queue) refl

  -- after the counted picks of an anchor the loop has ended
  pub filled_ended : (used : List ℕ) (e : QueueEntry) → Ended (filled s r queue (seats_left s) (opened used e))
  filled_ended used e = ended_from (seats_left s) (opened used e) (omega arith) (omega arith)
