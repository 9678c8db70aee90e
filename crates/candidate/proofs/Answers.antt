-- The exhaustive generator's answers: one law for each, in the order of the refusals.
use Prim.Native.Nat.{ℕ, ◌*◌, ◌≤◌, ◌<◌}
use mathlib.Core.Path.{◌≡◌, sym, ap, ◌∙◌}
use mathlib.Core.Bool.{true, false, ◌||◌}
use mathlib.Core.List.{List, [], map}
use native.Mathlib.Nat.{le_trans, mul-le-mul_left, mul-le-mul_right}
use native.Mathlib.Omega.{arith}
use borrow.Author.Tests.{lt-ltb, le-ltb}
use lib.Dec.{ltb}
use lib.Ieee.{Float}
use lib.ListN.{length, take, drop}
use lib.Seq.{length-take-le}
use Rattle.base.specs.Floats as Floats
use Rattle.base.specs.Refusals.{refused, gives}
use Rattle.base.specs.Lists.{any}
use Rattle.base.proofs.Arrays.{take_map}
use Rattle.base.proofs.Checks.{by_first, by_second}
use Rattle.queue.specs.declared.QueueEntry.{QueueEntry}
use Rattle.queue.specs.Queue.{QueueState, joined_over}
use Rattle.matchmaker.specs.Quality.{MatchState}
use Rattle.seating.specs.declared.TeamComposition.{TeamComposition}
use Rattle.seating.specs.Seating.{Sheets, HandedOut, sizes_over, seats_of, lineup, seats, handed_out}
use Rattle.candidate.specs.declared.exhaustive.Marks.{Marks}
use Rattle.candidate.specs.Choices.{ways}
use Rattle.candidate.specs.Exhaustive.{exhaustive_matches, too_wide, too_short, exhaustive_rule}
use Rattle.candidate.specs.Walks.{through, Listing, listing, listed}
use Rattle.candidate.proofs.Listings.{listing_count, listing_seats, through_split, listed_all}
use Rattle.candidate.proofs.Walking.{ways_small}

-- ---- which answer, by the four tests

module _ (s : TeamComposition) (q : QueueState) (sheets : Sheets) where
  -- over a limit
  pub refuses_1 : (ltb 64 q.size || sizes_over s) ≡ true → record { answer = refused 1; sheets = sheets } ≡ exhaustive_rule s q sheets
  refuses_1 e = rw e

  module _ (in-limits : (ltb 64 q.size || sizes_over s) ≡ false) where
    -- a time above 2^53
    pub refuses_4 : any joined_over q.entries ≡ true → record { answer = refused 4; sheets = sheets } ≡ exhaustive_rule s q sheets
    refuses_4 e = rw (in-limits, e)

    module _ (in_time : any joined_over q.entries ≡ false) where
      -- too wide
      pub refuses_6 : too_wide q.entries ≡ true → record { answer = refused 6; sheets = sheets } ≡ exhaustive_rule s q sheets
      refuses_6 e = rw (in-limits, in_time, e)

      module _ (narrow : too_wide q.entries ≡ false) where
        -- a short sheet
        pub refuses_3 : too_short (exhaustive_matches s q.entries) sheets ≡ true → record { answer = refused 3; sheets = sheets } ≡ exhaustive_rule s q sheets
        refuses_3 e = rw (in-limits, in_time, narrow, e)

        -- none of these: the listing
        pub lists : {r : HandedOut} → too_short (exhaustive_matches s q.entries) sheets ≡ false → r ≡ handed_out (λ m. Floats.zero) (gives (exhaustive_matches s q.entries)) sheets → r ≡ exhaustive_rule s q sheets
        lists e h = rw (in-limits, in_time, narrow, e) h

-- ---- what the tests are of

-- the places that the matches of at most 20 fill are few
pub room_small : (n k : ℕ) {many : ℕ} → many ≡ ways n k → n ≤ 20 → k ≤ 16 → many * k ≤ 16777216
room_small n k {many} e h g =
    let m : many ≤ 1048576 = omega (arith, e, ways_small n k h) in
    le_trans (mul-le-mul_right k m) (le_trans (mul-le-mul_left 1048576 g) (omega arith))

-- the first n of an array wait
module _ (es : List QueueEntry) (n : ℕ) (fits : n ≤ length es) where
  -- more than 20
  pub wide : 20 < n → too_wide (take n es) ≡ true
  wide h = lt-ltb 20 (length (take n es)) (rw (length-take-le n es fits) h)

  -- 20 at most
  pub not_wide : n ≤ 20 → too_wide (take n es) ≡ false
  not_wide h = le-ltb 20 (length (take n es)) (rw (length-take-le n es fits) h)

-- and there are `many` ways to choose
module _ (s : TeamComposition) (es : List QueueEntry) (n : ℕ) (fits : n ≤ length es) (players : List ℕ) (qualities : List Float) {many : ℕ} (e : many ≡ ways n (seats_of s)) where
  abbrev ms : List MatchState
  ms = exhaustive_matches s (take n es)

  abbrev sheets : Sheets
  sheets = record { players = players; qualities = qualities }

  count : length ms ≡ many
  count = listing_count s (take n es) ∙ rw (length-take-le n es fits) (sym e)

  room : length (seats ms) ≡ many * seats_of s
  room = listing_seats s (take n es) ∙ rw (length-take-le n es fits, ← e)

  -- too few places for players
  pub short_players : length players < many * seats_of s → too_short ms sheets ≡ true
  short_players h = by_first (ltb (length qualities) (length ms)) (lt-ltb (length players) (length (seats ms)) (rw room h))

  module _ (h : many * seats_of s ≤ length players) where
    enough : ltb (length players) (length (seats ms)) ≡ false
    enough = le-ltb (length players) (length (seats ms)) (rw room h)

    -- too few for qualities
    pub short_qualities : length qualities < many → too_short ms sheets ≡ true
    short_qualities g = by_second (ltb (length qualities) (length ms)) enough (lt-ltb (length qualities) (length ms) (rw count g))

    module _ (g : many ≤ length qualities) where
      -- enough for both
      pub not_short : too_short ms sheets ≡ false
      not_short = by_second (ltb (length qualities) (length ms)) enough (le-ltb (length qualities) (length ms) (rw count g))

      -- the walk from nobody seated leaves the listing on the sheets
      pub walked : {d : List ℕ} {q : List Float} {r : Marks} {m : MatchState} {ids : List ℕ} → (s.a ≤ 8) × (s.b ≤ 8) → m ≡ lineup [] [] → ids ≡ map (λ x. x.player) es
          → listing d q r ≡ through s listed m (seats_of s) (take n (drop 0 ids)) (record { players = players; qualities = qualities; at = 0; done = 0 })
          → record { answer = gives many; sheets = record { players = d; qualities = q } } ≡ handed_out (λ x. Floats.zero) (gives ms) sheets
      walked {d} {q} {r} {m} {ids} a i j k =
          let l : Listing = record { players = players; qualities = qualities; at = 0; done = 0 } in
          let f = k ∙ ap (λ (x : MatchState). through s listed x (seats_of s) (take n ids) l) i
          ∙ ap (λ (x : List ℕ). through s listed (lineup [] []) (seats_of s) x l) (ap (take n) j ∙ take_map (λ (x : QueueEntry). x.player) n es)
          ∙ through_split s listed (take n es) l a.0 a.1
          ∙ listed_all ms players qualities (rw room h) (rw count g) in
          let u = ap (λ (x : Listing). x.players) f in
          let v = ap (λ (x : Listing). x.qualities) f in
          rw (count, u, v)
