-- Demand 3, of every list of calls from an empty hall with any sizes. Nothing is assumed.
use Prim.Native.Nat.{ℕ, ◌+◌}
use mathlib.Core.Path.{◌≡◌, refl, sym, ap, ◌∙◌, subst}
use mathlib.Core.Bool.{Bool, true, false}
use mathlib.Core.List.{List, [], ◌∷◌, ◌++◌, map}
use Rattle.std.specs.Prelude.{None, Some}
use native.Mathlib.Omega.{arith}
use lib.ListN.{length}
use Rattle.base.specs.Refusals.{Outcome, refused, gives}
use Rattle.base.specs.Lists.{any}
use Rattle.base.proofs.Cases.{cases, never}
use Rattle.seating.specs.declared.TeamComposition.{TeamComposition}
use Rattle.seating.specs.Seating.{Sheets, sizes_over}
use Rattle.seating.specs.Seats.{Seating}
use Rattle.seating.proofs.Drawn.{drawn_none}
use Rattle.choice.specs.Full.{Terms}
use Rattle.hall.specs.Games.{sizes_for, eligible}
use Rattle.hall.specs.Hall.{HallState, entry_of, empty}
use Rattle.hall.specs.Rounds.{RoundCall, full, of_game, game_of, sizes_in, entries_in, Found, round_found, matches_from, turn_from, FullRound}
use Rattle.hall.proofs.Found.{round_best}
use Rattle.hall.proofs.Others.{round_others}
use Rattle.hall.proofs.Sameness.{same_deed}
use Rattle.demand.specs.Calls.{Call, keyed, round, no_kind, no_kind_refusal, Answer, handed, Step, rounded, step, after, answers, mark, originals, leave, thin, matches_handed, accepted_in, withdrawn_in, seated_in, replay}
use Rattle.demand.specs.Demand.{Orderly, Resent, Thinned, count_given, Demand3}
use Rattle.demand.proofs.Handled.{step_handled, sizes_after, grows}
use Rattle.demand.proofs.Orderly.{Sane, sane_after, orderly_empty, sane_empty, drawn, told}
use Rattle.demand.proofs.Thin.{Left, left_out}
use Rattle.demand.proofs.Resend.{named, clashing}
use Rattle.demand.proofs.Origin.{Again, resent, replayed}
use Rattle.demand.proofs.First.{first_iff}
use Rattle.demand.proofs.Count.{conserve}
use Rattle.demand.proofs.Over.{refusal, over_step, over_after, over_answers, no_matches, none_accepted, none_withdrawn, none_seated, none_replayed, thin_map, empty_over, resent_over}

-- ---- whatever the sizes are

-- two lists of calls answer as the first does, then as the second does from the hall that the first left
pub answers_append : (h : HallState) (cs ds : List Call) → answers h (cs ++ ds) ≡ answers h cs ++ answers (after h cs) ds
answers_append h [] ds = refl
answers_append h (c ∷ cs) ds = ap (λ (r : List Answer). (step h c).answer ∷ r) (answers_append (step h c).hall cs ds)

-- a resend is its original, come again
repeated : (sizes : List TeamComposition) (pre : List Call) (c : Call) → Again sizes pre c → Resent sizes pre c
repeated sizes pre c r =
    record {
      before = r.before;
      between = r.between;
      earlier = r.earlier ∙ ap (λ (x : Call). r.before ++ (x ∷ r.between)) it;
      marked = ap (mark (originals [] r.before)) (sym it) ∙ r.marked;
      hall = r.hall;
      answer = r.answer ∙ ap (λ (x : Call). (step (after (empty sizes) r.before) x).answer) it;
    }
  where
    it : keyed r.key r.first ≡ c
    it = ap (keyed r.key) (same_deed r.first r.deed r.alike) ∙ sym r.call

-- a full round one of whose soft kinds is none
turned_away_lem : (h : HallState) (g : ℕ) (s : Sheets) → step h (no_kind g s) ≡ record { hall = h; answer = handed (record { answer = refused (no_kind_refusal g); sheets = s }) 0 None }
unfolding step
turned_away_lem h g s = refl

-- ---- rounds of a hall that has these sizes

module _ (sizes : List TeamComposition) (h : HallState) (c : RoundCall) (s : Sane h) (q : h.sizes ≡ sizes) where
  -- the matches that the sheet tells are those that the round found
  told_step : matches_handed sizes (round c) (step h (round c)).answer ≡ matches_from (round_found h c)
  told_step =
      ap (λ (z : List TeamComposition). matches_handed z (round c) (step h (round c)).answer) (sym q)
      ∙ ap (λ (t : Step). matches_handed h.sizes (round c) t.answer) (step_handled h (round c) s.bounded.within) ∙ told h c s

  -- so they seat different guests who waited for its game just before, A and B in each
  seating : Seating (sizes_in h c) (entries_in h c) (matches_handed sizes (round c) (step h (round c)).answer)
  seating = subst (Seating (sizes_in h c) (entries_in h c)) (sym told_step) (drawn h c s).seating

  -- a full round not refused
  fulls : (g : ℕ) (t : Terms) (n : ℕ) → c.round ≡ of_game g (full t) → count_given (step h (round c)).answer ≡ gives n →
      FullRound t (sizes_for sizes g) (map entry_of (eligible g h.waiting.bookings)) (matches_handed sizes (round c) (step h (round c)).answer)
  fulls g t n p e =
      subst (FullRound t (sizes_for sizes g) (map entry_of (eligible g h.waiting.bookings))) (sym told_step)
      (go (round_found h c) refl (ap (λ (x : Step). count_given x.answer) (sym (step_handled h (round c) s.bounded.within)) ∙ e))
    where
      go : (x : Outcome Found) → round_found h c ≡ x → count_given (rounded (turn_from h c x)).answer ≡ gives n →
          FullRound t (sizes_for sizes g) (map entry_of (eligible g h.waiting.bookings)) (matches_from x)
      go (refused i) r e = never cc
      go (gives f) r e =
          subst (λ (z : List TeamComposition). FullRound t (sizes_for z g) (map entry_of (eligible g h.waiting.bookings)) f.matches) q
          (round_best h c f r g t p)

  -- the bookings of other games stay
  others : (g : ℕ) → (game_of h c ≡ Some g → ⊥) → eligible g (step h (round c)).hall.waiting.bookings ≡ eligible g h.waiting.bookings
  unfolding step
  others g = round_others h c g s.orderly.players

-- ---- no size is over 8

module _ (sizes : List TeamComposition) (small : any sizes_over sizes ≡ false) where
  -- a sane hall at every moment
  sane_so_far : (cs : List Call) → Sane (after (empty sizes) cs)
  sane_so_far cs = sane_after (empty sizes) cs (sane_empty sizes small)

  -- any resends left out
  thinned : (m : List Bool) (calls : List Call) → Thinned sizes (leave m [] calls) calls
  thinned m calls =
      let l : Left (empty sizes) (leave m [] calls) calls = left_out (empty sizes) m calls (sane_empty sizes small) in
      record { hall = l.hall; answers = l.answers }

  -- demand 3 where no size is over 8
  demand_within : (calls : List Call) → Demand3 sizes calls
  demand_within calls =
      record {
        turns = λ pre post c e. ap (answers (empty sizes)) e ∙ answers_append (empty sizes) pre (c ∷ post);
        orderly = λ pre post e. (sane_so_far pre).orderly;
        games = λ pre post e. sizes_after (empty sizes) pre;
        firsts = λ pre post k d e. first_iff pre k d;
        named = λ pre mid post c e. named pre mid c;
        clashes = λ pre mid post k d e q m other s. clashing sizes small pre mid k d m e other;
        resends = λ pre post c e m. repeated sizes pre c (resent sizes small pre c m);
        thinned = λ m. thinned m calls;
        grows = λ pre post c e. grows (after (empty sizes) pre) c;
        sum = omega (arith, conserve sizes (empty sizes) calls (sane_empty sizes small) refl);
        queue = λ pre post e. replayed sizes (empty sizes) pre (sane_empty sizes small) refl;
        seating = λ pre post c e. seating sizes (after (empty sizes) pre) c (sane_so_far pre) (sizes_after (empty sizes) pre);
        others = λ pre post c g e. others sizes (after (empty sizes) pre) c (sane_so_far pre) (sizes_after (empty sizes) pre) g;
        fulls = λ pre post g t c n e. fulls sizes (after (empty sizes) pre) c (sane_so_far pre) (sizes_after (empty sizes) pre) g t n;
        no_kinds = λ pre post g s e. turned_away_lem (after (empty sizes) pre) g s;
      }

-- ---- some size is over 8

module _ (sizes : List TeamComposition) (big : any sizes_over sizes ≡ true) where
  -- the hall stays empty
  empty_so_far : (cs : List Call) → after (empty sizes) cs ≡ empty sizes
  empty_so_far = over_after (empty sizes) (empty_over sizes big)

  -- each call is answered by its refusal
  refused_so_far : (cs : List Call) → answers (empty sizes) cs ≡ map refusal cs
  refused_so_far = over_answers (empty sizes) (empty_over sizes big)

  -- and leaves the hall, behind any calls
  refused_step : (pre : List Call) (c : Call) → step (after (empty sizes) pre) c ≡ record { hall = after (empty sizes) pre; answer = refusal c }
  refused_step pre c = rw (empty_so_far pre) (over_step (empty sizes) (empty_over sizes big) c)

  -- whatever is left out
  thinned_over : (m : List Bool) (calls : List Call) → Thinned sizes m calls
  thinned_over m calls =
      record {
        hall = empty_so_far (thin m calls) ∙ sym (empty_so_far calls);
        answers = refused_so_far (thin m calls) ∙ sym (thin_map refusal m calls) ∙ ap (thin m) (sym (refused_so_far calls));
      }

  -- nobody is accepted
  sum_over : (calls : List Call) → accepted_in [] calls (answers (empty sizes) calls)
      ≡ length (after (empty sizes) calls).waiting.bookings
      + (withdrawn_in [] calls (answers (empty sizes) calls) + seated_in sizes calls (answers (empty sizes) calls))
  sum_over calls =
      rw (refused_so_far calls, empty_so_far calls)
      (omega (arith, none_accepted [] calls, none_withdrawn [] calls, none_seated sizes calls))

  -- nobody waits
  queue_over : (pre : List Call) → (after (empty sizes) pre).waiting.bookings ≡ replay sizes [] [] pre (answers (empty sizes) pre)
  queue_over pre = rw (empty_so_far pre, refused_so_far pre) (sym (none_replayed sizes [] [] pre))

  -- no match is handed out
  unmatched : (pre : List Call) (c : RoundCall) → matches_handed sizes (round c) (step (after (empty sizes) pre) (round c)).answer ≡ []
  unmatched pre c = rw (refused_step pre (round c)) (no_matches sizes (round c))

  -- demand 3 where one is
  demand_over : (calls : List Call) → Demand3 sizes calls
  demand_over calls =
      record {
        turns = λ pre post c e. ap (answers (empty sizes)) e ∙ answers_append (empty sizes) pre (c ∷ post);
        orderly = λ pre post e. subst Orderly (sym (empty_so_far pre)) (orderly_empty sizes);
        games = λ pre post e. sizes_after (empty sizes) pre;
        firsts = λ pre post k d e. first_iff pre k d;
        named = λ pre mid post c e. named pre mid c;
        clashes = λ pre mid post k d e q m other small. never (let z : true ≡ false = sym big ∙ small in cc);
        resends = λ pre post c e m. repeated sizes pre c (resent_over sizes big pre c m);
        thinned = λ m. thinned_over (leave m [] calls) calls;
        grows = λ pre post c e. grows (after (empty sizes) pre) c;
        sum = sum_over calls;
        queue = λ pre post e. queue_over pre;
        seating = λ pre post c e. subst (Seating _ _) (sym (unmatched pre c)) (drawn_none _ _).seating;
        others = λ pre post c g e n. ap (λ (x : Step). eligible g x.hall.waiting.bookings) (refused_step pre (round c));
        fulls = λ pre post g t c n e p f. never (let z : refused _ ≡ gives n = ap (λ (x : Step). count_given x.answer) (sym (refused_step pre (round c))) ∙ f in cc);
        no_kinds = λ pre post g s e. turned_away_lem (after (empty sizes) pre) g s;
      }

-- ---- the demand

-- of every list of calls, whatever the sizes are
pub demand3 : (sizes : List TeamComposition) (calls : List Call) → Demand3 sizes calls
demand3 sizes calls = cases (any sizes_over sizes) (λ big. demand_over sizes big calls) (λ small. demand_within sizes small calls)
