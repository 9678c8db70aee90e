-- Demand 3: one statement over every list of calls from an empty hall.
use Rattle.std.specs.Prelude.{ℕ, ◌+◌, ◌≤◌, ◌<◌, ◌≡◌, Bool, false, ◌↔◌, List, [], ◌∷◌, ◌++◌, map, length}
use Rattle.std.specs.Prelude.{None, Some}
use Rattle.base.specs.Refusals.{Outcome, refused, gives}
use Rattle.base.specs.Lists.{any, member, Distinct}
use Rattle.seating.specs.declared.TeamComposition.{TeamComposition}
use Rattle.seating.specs.Seating.{Sheets, sizes_over}
use Rattle.seating.specs.Seats.{Seating}
use Rattle.choice.specs.Full.{Terms}
use Rattle.hall.specs.Games.{no_last_game, sizes_for, eligible}
use Rattle.hall.specs.Hall.{HallState, awaiting, entry_of, KeyRecord, logging, empty, Deed}
use Rattle.hall.specs.Rounds.{RoundCall, full, of_game, game_of, sizes_in, entries_in, FullRound}
use Rattle.demand.specs.Calls.{Call, keyed, round, no_kind, no_kind_refusal, Answer, answered, handed, step, after, answers, mark, original, resend, other, originals, leave, thin, keys_of, different, matches_handed, accepted_in, withdrawn_in, seated_in, replay}

-- ---- what holds of the hall at every moment

pub record Orderly (h : HallState) : Type 0 where
  -- the stated lengths are the lists' own
  pub waiting : h.waiting ≡ awaiting h.waiting.bookings
  pub log : h.log ≡ logging h.log.records
  -- nobody waits twice, no key is noted twice
  pub players : Distinct (map (λ b. b.player) h.waiting.bookings)
  pub keys : Distinct (map (λ r. r.key) h.log.records)
  -- within the limits
  pub few : length h.waiting.bookings ≤ 64
  pub noted : length h.log.records ≤ 1024
  -- the last game served is 0 to 7, or none
  pub last : no_last_game h.served ≡ false

-- ---- originals and resends

-- behind `pre`, a call with this key is the first with its key, and its key is one of the first 1,024 different ones
pub record First (pre : List Call) (k : ℕ) : Type 0 where
  pub new : member k (keys_of pre) ≡ false
  pub early : length (different [] (keys_of pre)) < 1024

module _ (sizes : List TeamComposition) where
  -- the call behind `pre` has its original there, which is the very same call; it answers as the original did, and leaves the hall
  pub record Resent (pre : List Call) (c : Call) : Type 0 where
    pub before : List Call
    pub between : List Call
    pub earlier : pre ≡ before ++ (c ∷ between)
    pub marked : mark (originals [] before) c ≡ original
    pub hall : (step (after (empty sizes) pre) c).hall ≡ after (empty sizes) pre
    pub answer : (step (after (empty sizes) pre) c).answer ≡ (step (after (empty sizes) before) c).answer

  -- the call behind `pre` is neither original nor resend, is refused with 7, and leaves the hall
  pub record Clashing (pre : List Call) (c : Call) : Type 0 where
    pub marked : mark (originals [] pre) c ≡ other
    pub turned : step (after (empty sizes) pre) c ≡ record { hall = after (empty sizes) pre; answer = answered (refused 7) }

  -- the list without the calls named: the hall ends alike, and all other calls answer alike
  pub record Thinned (m : List Bool) (calls : List Call) : Type 0 where
    pub hall : after (empty sizes) (thin m calls) ≡ after (empty sizes) calls
    pub answers : answers (empty sizes) (thin m calls) ≡ thin m (answers (empty sizes) calls)

-- the refusal of a round, or its number of matches
abbrev pub count_given : Answer → Outcome ℕ
count_given (answered (refused n)) = refused n
count_given (answered (gives u)) = gives 0
count_given (handed h tried served) = h.answer

-- the first list is the beginning of the second
pub record Grown (rs ts : List KeyRecord) : Type 0 where
  pub behind : List KeyRecord
  pub split : ts ≡ rs ++ behind

-- from an empty hall with these sizes, whatever they are
pub record Demand3 (sizes : List TeamComposition) (calls : List Call) : Type 0 where
  -- each call gets the hall as the one before left it
  pub turns : (pre post : List Call) (c : Call) → calls ≡ pre ++ (c ∷ post) →
      answers (empty sizes) calls ≡ answers (empty sizes) pre ++ ((step (after (empty sizes) pre) c).answer ∷ answers (step (after (empty sizes) pre) c).hall post)
  pub orderly : (pre post : List Call) → calls ≡ pre ++ post → Orderly (after (empty sizes) pre)
  -- the sizes stay as they were given
  pub games : (pre post : List Call) → calls ≡ pre ++ post → (after (empty sizes) pre).sizes ≡ sizes
  -- an original is the first call with its key, for the first 1,024 different keys
  pub firsts : (pre post : List Call) (k : ℕ) (d : Deed) → calls ≡ pre ++ (keyed k d ∷ post) →
      (mark (originals [] pre) (keyed k d) ≡ original) ↔ First pre k
  -- an original that comes again is a resend
  pub named : (pre mid post : List Call) (c : Call) → calls ≡ pre ++ (c ∷ (mid ++ (c ∷ post))) →
      mark (originals [] pre) c ≡ original → mark (originals [] (pre ++ (c ∷ mid))) c ≡ resend
  -- a call under an original's key that differs from it, be it in one field of a booking, is refused with 7 and changes nothing: where a size is
  -- over 8 all calls are refused before
  pub clashes : (pre mid post : List Call) (k : ℕ) (d e : Deed) → calls ≡ pre ++ (keyed k d ∷ (mid ++ (keyed k e ∷ post))) →
      mark (originals [] pre) (keyed k d) ≡ original → (d ≡ e → ⊥) → any sizes_over sizes ≡ false → Clashing sizes (pre ++ (keyed k d ∷ mid)) (keyed k e)
  -- and each resend answers as its original
  pub resends : (pre post : List Call) (c : Call) → calls ≡ pre ++ (c ∷ post) → mark (originals [] pre) c ≡ resend → Resent sizes pre c
  -- any resends left out, all other calls answer alike and the hall ends alike
  pub thinned : (m : List Bool) → Thinned sizes (leave m [] calls) calls
  -- records only grow
  pub grows : (pre post : List Call) (c : Call) → calls ≡ pre ++ (c ∷ post) →
      Grown (after (empty sizes) pre).log.records (step (after (empty sizes) pre) c).hall.log.records
  -- accepted = waiting + withdrawn + seated, over all games
  pub sum : accepted_in [] calls (answers (empty sizes) calls)
      ≡ length (after (empty sizes) calls).waiting.bookings
      + (withdrawn_in [] calls (answers (empty sizes) calls) + seated_in sizes calls (answers (empty sizes) calls))
  -- the bookings of just those who wait stand there, in the order booked
  pub queue : (pre post : List Call) → calls ≡ pre ++ post → (after (empty sizes) pre).waiting.bookings ≡ replay sizes [] [] pre (answers (empty sizes) pre)
  -- each match seats exactly A + B of its game, different guests, all waiting for that game just before, none in two matches of the round
  pub seating : (pre post : List Call) (c : RoundCall) → calls ≡ pre ++ (round c ∷ post) →
      Seating (sizes_in (after (empty sizes) pre) c) (entries_in (after (empty sizes) pre) c)
      (matches_handed sizes (round c) (step (after (empty sizes) pre) (round c)).answer)
  -- a round of one game leaves the bookings of every other as they are
  pub others : (pre post : List Call) (c : RoundCall) (g : ℕ) → calls ≡ pre ++ (round c ∷ post) → (game_of (after (empty sizes) pre) c ≡ Some g → ⊥) →
      eligible g (step (after (empty sizes) pre) (round c)).hall.waiting.bookings ≡ eligible g (after (empty sizes) pre).waiting.bookings
  -- a full round not refused hands out a match exactly when some choice passes, and no other passing choice scores higher
  pub fulls : (pre post : List Call) (g : ℕ) (t : Terms) (c : RoundCall) (n : ℕ) → calls ≡ pre ++ (round c ∷ post) →
      c.round ≡ of_game g (full t) → count_given (step (after (empty sizes) pre) (round c)).answer ≡ gives n →
      FullRound t (sizes_for sizes g) (map entry_of (eligible g (after (empty sizes) pre).waiting.bookings))
      (matches_handed sizes (round c) (step (after (empty sizes) pre) (round c)).answer)
  -- a full round one of whose soft kinds is none answers 1, or 13, and leaves the hall and its sheets as they were
  pub no_kinds : (pre post : List Call) (g : ℕ) (s : Sheets) → calls ≡ pre ++ (no_kind g s ∷ post) →
      step (after (empty sizes) pre) (no_kind g s)
      ≡ record { hall = after (empty sizes) pre; answer = handed (record { answer = refused (no_kind_refusal g); sheets = s }) 0 None }
