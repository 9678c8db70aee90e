-- A hall over a limit, as an empty hall that is given a size over 8: every call is refused and leaves the hall as it was.
use Prim.Native.Nat.{ℕ}
use mathlib.Core.Path.{◌≡◌, refl, sym, ap, ◌∙◌}
use mathlib.Core.Bool.{Bool, true, false, cond, and-false}
use mathlib.Core.List.{List, [], ◌∷◌, map}
use Rattle.std.specs.Prelude.{None}
use native.Mathlib.Omega.{arith}
use Rattle.base.specs.Refusals.{refused}
use Rattle.base.specs.Lists.{seek, any}
use Rattle.base.proofs.Cases.{cases}
use Rattle.base.proofs.Members.{stay_nobody}
use Rattle.seating.specs.declared.TeamComposition.{TeamComposition}
use Rattle.seating.specs.Seating.{sizes_over, seats, read_off}
use Rattle.hall.specs.declared.Booking.{Booking}
use Rattle.hall.specs.Hall.{HallState, empty, is_over, book, withdraw, Signature}
use Rattle.hall.specs.Rounds.{RoundCall, names_no_game, round_found}
use Rattle.demand.specs.Calls.{Call, keyed, round, no_kind, no_kind_refusal, Answer, answered, handed, Step, step, after, answers, resend, mark, originals, grow, thin, taken, matches_handed, accepted_in, withdrawn_in, seated_in, moved, replay}
use Rattle.demand.proofs.Origin.{Again, resent}

-- ---- one call

-- a round that names no game is refused with 13, and every other with 1
abbrev round_refusal : RoundCall → ℕ
round_refusal c = cond (names_no_game c.round) 13 1

-- what is answered to a call
abbrev pub refusal : Call → Answer
refusal (keyed k d) = answered (refused 1)
refusal (round c) = handed (record { answer = refused (round_refusal c); sheets = c.sheets }) 0 None
refusal (no_kind g s) = handed (record { answer = refused (no_kind_refusal g); sheets = s }) 0 None

module _ (h : HallState) (over : is_over h ≡ true) where
  -- a round finds nothing
  none_found : (c : RoundCall) → round_found h c ≡ refused (round_refusal c)
  none_found c = cases (names_no_game c.round) (λ t. rw t) (λ f. rw (f, over))

  -- every call is refused and leaves the hall as it was
  pub over_step : (c : Call) → step h c ≡ record { hall = h; answer = refusal c }
  unfolding step
  over_step (keyed k d) = rw over
  over_step (round c) = rw (none_found c)
  over_step (no_kind g s) = refl

  -- so any calls leave it
  pub over_after : (cs : List Call) → after h cs ≡ h
  over_after [] = refl
  over_after (c ∷ cs) = rw (over_step c) (over_after cs)

  -- and each is answered by its refusal
  pub over_answers : (cs : List Call) → answers h cs ≡ map refusal cs
  over_answers [] = refl
  over_answers (c ∷ cs) = rw (over_step c) (ap (λ (rs : List Answer). refusal c ∷ rs) (over_answers cs))

-- ---- what these answers say: nobody is accepted, withdrawn or seated

-- nothing is accepted
not_taken : (c : Call) → taken (refusal c) ≡ false
not_taken (keyed k d) = refl
not_taken (round c) = refl
not_taken (no_kind g s) = refl

-- no match is handed out
pub no_matches : (sizes : List TeamComposition) (c : Call) → matches_handed sizes c (refusal c) ≡ []
unfolding read_off
no_matches sizes (keyed k d) = refl
no_matches sizes (round c) = refl
no_matches sizes (no_kind g s) = refl

-- so no booking is counted as accepted
pub none_accepted : (o : List Signature) (cs : List Call) → accepted_in o cs (map refusal cs) ≡ 0
none_accepted o [] = refl
none_accepted o (c ∷ cs) = rw (not_taken c, and-false, and-false) (omega (arith, none_accepted (grow o c) cs))

-- no withdrawal is counted
pub none_withdrawn : (o : List Signature) (cs : List Call) → withdrawn_in o cs (map refusal cs) ≡ 0
none_withdrawn o [] = refl
none_withdrawn o (c ∷ cs) = rw (not_taken c, and-false, and-false) (omega (arith, none_withdrawn (grow o c) cs))

-- nobody is counted as seated
pub none_seated : (sizes : List TeamComposition) (cs : List Call) → seated_in sizes cs (map refusal cs) ≡ 0
unfolding seats
none_seated sizes [] = refl
none_seated sizes (c ∷ cs) = rw (no_matches sizes c) (omega (arith, none_seated sizes cs))

-- a call that is not accepted moves nobody
none_moved : (sizes : List TeamComposition) (c : Call) (ws : List Booking) → moved sizes false c (refusal c) ws ≡ ws
unfolding read_off seats
none_moved sizes (keyed k (book b)) ws = refl
none_moved sizes (keyed k (withdraw p)) ws = refl
none_moved sizes (round c) ws = stay_nobody (λ b. b.player) ws
none_moved sizes (no_kind g s) ws = refl

-- so nobody waits but who did
pub none_replayed : (sizes : List TeamComposition) (o : List Signature) (ws : List Booking) (cs : List Call) → replay sizes o ws cs (map refusal cs) ≡ ws
none_replayed sizes o ws [] = refl
none_replayed sizes o ws (c ∷ cs) = rw (not_taken c, and-false, none_moved sizes c ws) (none_replayed sizes (grow o c) ws cs)

-- places left out of what f makes of each are left out of the list
pub thin_map : {A B : Type 0} (f : A → B) (m : List Bool) (xs : List A) → thin m (map f xs) ≡ map f (thin m xs)
thin_map f m [] = refl
thin_map f [] (x ∷ xs) = refl
thin_map {B = B} f (true ∷ m) (x ∷ xs) = thin_map f m xs
thin_map {B = B} f (false ∷ m) (x ∷ xs) = ap (λ (r : List B). f x ∷ r) (thin_map f m xs)

-- ---- the empty hall with a size over 8

module _ (sizes : List TeamComposition) (big : any sizes_over sizes ≡ true) where
  -- is over a limit
  pub empty_over : is_over (empty sizes) ≡ true
  empty_over = rw big

  -- a resend has its original, since that is for the calls alone to say; both are refused with 1
  pub resent_over : (pre : List Call) (c : Call) → mark (originals [] pre) c ≡ resend → Again sizes pre c
  unfolding seek
  resent_over pre c e =
      record {
        key = r.key;
        deed = r.deed;
        first = r.first;
        before = r.before;
        between = r.between;
        call = r.call;
        earlier = r.earlier;
        marked = r.marked;
        alike = r.alike;
        hall = ap (λ (x : Step). x.hall) (at pre c) ∙ sym (over_after (empty sizes) empty_over pre);
        answer = ap (λ (x : Step). x.answer) (at pre c) ∙ ap refusal r.call ∙ sym (ap (λ (x : Step). x.answer) (at r.before (keyed r.key r.first)));
      }
    where
      r : Again [] pre c
      r = resent [] refl pre c e

      at : (cs : List Call) (d : Call) → step (after (empty sizes) cs) d ≡ record { hall = empty sizes; answer = refusal d }
      at cs d = rw (over_after (empty sizes) empty_over cs) (over_step (empty sizes) empty_over d)
