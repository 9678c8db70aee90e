-- The sheets while the search goes on: what stands on them are the matches so far.
use Prim.Native.Nat.{ℕ, ◌+◌, ◌-◌, ◌≤◌, ◌<◌, min}
use mathlib.Core.Path.{◌≡◌, refl, sym, ap, ◌∙◌, subst}
use mathlib.Core.Bool.{Bool, true, false, cond}
use mathlib.Core.List.{List, [], ◌∷◌, ◌++◌, map, map-append}
use native.Mathlib.Omega.{arith}
use lib.Ieee.{Float}
use lib.ListN.{length, take, drop, get_or, set, replicate, length-append, length-map}
use Rattle.base.specs.Lists.{times}
use Rattle.base.proofs.Cases.{cases}
use Rattle.base.proofs.Loops.{times_on}
use Rattle.roster.specs.Roster.{Roster}
use Rattle.matchmaker.specs.Quality.{MatchState, seated, quality_of}
use Rattle.seating.specs.declared.TeamComposition.{TeamComposition}
use Rattle.seating.specs.Seating.{seats}
use Rattle.seating.specs.Steps.{overlaid, RatedOut}
use Rattle.seating.specs.Turns.{complete, seats_left}
use Rattle.seating.proofs.Laws.{overlaid_append, length_overlaid, length_lent}
use Rattle.seating.proofs.Seated.{seats_add}
use Rattle.greedy.specs.Steps.{Columns, Fill, Course, Paper, added, forming, filling, opening, closing, anchoring, running, unmarked}
use Rattle.greedy.proofs.Laws.{anchor_used, anchor_fills}

-- ---- one match

-- an element put behind a row that lies over a sheet
overlaid_put : {A : Type 0} (y : A) (xs sheet : List A) → length xs < length sheet → set (overlaid xs sheet) (length xs) y ≡ overlaid (xs ++ (y ∷ [])) sheet
unfolding overlaid
overlaid_put y [] [] h = absurd (omega (arith, h))
overlaid_put y [] (z ∷ sheet) h = refl
overlaid_put y (x ∷ xs) [] h = absurd (omega (arith, h))
overlaid_put {A = A} y (x ∷ xs) (z ∷ sheet) h = ap (λ (l : List A). x ∷ l) (overlaid_put y xs sheet (omega (arith, h)))

module _ (s : TeamComposition) (r : Roster) (m : MatchState) {t : Bool} (whole : t ≡ complete s m) where
  -- a match that is not complete leaves the sheets as they are
  pub form_none : (p : Paper) → t ≡ false → p ≡ forming s r m p
  form_none p e = rw (sym whole ∙ e)

  -- a complete one goes into the rest of the sheet, and the next behind it
  pub form_one : (at count : ℕ) (ps : List ℕ) (qs : List Float) {far many : ℕ} {ps' : List ℕ} {q : Float} → t ≡ true → at ≤ length ps → ps' ≡ take at ps ++ overlaid (seated m) (drop at ps) → q ≡ quality_of r m.a.players m.b.players → many ≡ length (seated m) → far ≡ at + min many (length ps' - at) →
      ◌≡◌ {A = Paper} (record { seats = far; count = count + 1; players = ps'; qualities = set qs count q }) (forming s r m (record { seats = at; count = count; players = ps; qualities = qs }))
  form_one at count ps qs {far} {many} {ps'} e h row rated v k =
      let l : length ps' ≡ length ps = length_lent (seated m) ps at h row in
      let a : far ≡ at + min (length (seated m)) (length ps - at) = k ∙ rw (l, v) in
      rw (sym whole ∙ e) (λ j. record { seats = a j; count = count + 1; players = row j; qualities = set qs count (rated j) })

-- ---- the matches so far

module _ (r : Roster) (ps : List ℕ) (qs : List Float) where
  abbrev quality : MatchState → Float
  quality m = quality_of r m.a.players m.b.players

  -- these matches stand on the sheets that were ps and qs, and the next goes behind them
  pub record On (ms : List MatchState) (p : Paper) : Type 0 where
    pub far : p.seats ≡ min (length (seats ms)) (length ps)
    pub out : RatedOut r ms ps qs p.count p.players p.qualities

  -- none so far
  on_none : On [] (record { seats = 0; count = 0; players = ps; qualities = qs })
  unfolding seats overlaid
  on_none = record { far = omega arith; out = record { count = refl; seated = refl; rated = refl } }

  -- one more
  on_added : (ms : List MatchState) (m : MatchState) (p : Paper) → On ms p → length ms < length qs → On (ms ++ (m ∷ [])) (added r m p)
  on_added ms m p o h =
      let a = o.out in
      let w : length p.players ≡ length ps = ap length a.seated ∙ length_overlaid (seats ms) ps in
      let l : length (seats (ms ++ (m ∷ []))) ≡ length (seats ms) + length (seated m) = ap length (seats_add ms m) ∙ length-append (seats ms) (seated m) in
      let k : length (map quality ms) ≡ length ms = length-map ms quality in
      record {
        far = omega (arith, o.far, w, l);
        out =
            record {
              count = omega (arith, a.count, length-append ms (m ∷ []));
              seated =
                  ap (λ (d : List ℕ). take p.seats d ++ overlaid (seated m) (drop p.seats d)) a.seated
                  ∙ overlaid_append (seats ms) (seated m) ps p.seats o.far
                  ∙ ap (λ (row : List ℕ). overlaid row ps) (sym (seats_add ms m));
              rated =
                  ap (λ (d : List Float). set d p.count (quality m)) a.rated
                  ∙ ap (λ (n : ℕ). set (overlaid (map quality ms) qs) n (quality m)) (a.count ∙ sym k)
                  ∙ overlaid_put (quality m) (map quality ms) qs (omega (arith, k, h))
                  ∙ ap (λ (row : List Float). overlaid row qs) (sym (map-append quality ms (m ∷ [])));
            };
      }

  -- one more where it is complete
  on_formed : (s : TeamComposition) (ms : List MatchState) (m : MatchState) (p : Paper) → On ms p → length ms < length qs → On (cond (complete s m) (ms ++ (m ∷ [])) ms) (forming s r m p)
  on_formed s ms m p o h = cases (complete s m) (λ t. rw t (on_added ms m p o h)) (λ f. rw f o)

-- a match more, or none
few_formed : (t : Bool) (ms : List MatchState) (m : MatchState) → length (cond t (ms ++ (m ∷ [])) ms) ≤ length ms + 1
few_formed true ms m = omega (arith, length-append ms (m ∷ []))
few_formed false ms m = omega arith

-- equal matches are handed out alike
pub out_alike : {r : Roster} {ms ns : List MatchState} {ps ps' : List ℕ} {qs qs' : List Float} {n : ℕ} → ms ≡ ns → RatedOut r ms ps qs n ps' qs' → RatedOut r ns ps qs n ps' qs'
out_alike {r} {ms} {ns} {ps} {ps'} {qs} {qs'} {n} e o = subst (λ (l : List MatchState). RatedOut r l ps qs n ps' qs') e o

-- ---- anchor by anchor

module _ (s : TeamComposition) (c : Columns) (turns : List ℕ) (n : ℕ) (r : Roster) (ps : List ℕ) (qs : List Float) where
  abbrev course : ℕ → Course
  course i = times (λ i. anchoring s c n (get_or turns i 0)) unmarked i

  -- after i anchors: the marks are theirs, and their matches stand on the sheets
  pub record Reached (i : ℕ) (used : List Bool) (p : Paper) : Type 0 where
    pub marks : used ≡ (course i).used
    pub few : length (course i).matches ≤ i
    pub on : On r ps qs (course i).matches p

  pub reached_none : Reached 0 (replicate 64 false) (record { seats = 0; count = 0; players = ps; qualities = qs })
  unfolding times
  reached_none = record { marks = refl; few = omega arith; on = on_none r ps qs }

  module _ (i : ℕ) (used : List Bool) (p : Paper) (k : Reached i used p) where
    -- the sheets are as long as they were
    pub reached_long : (length p.players ≡ length ps) × (length p.qualities ≡ length qs)
    reached_long =
        (ap length k.on.out.seated ∙ length_overlaid (seats (course i).matches) ps, ap length k.on.out.rated ∙ length_overlaid (map (quality r ps qs) (course i).matches) qs)

    -- and have room for the next match
    pub reached_room : p.seats ≤ length p.players
    reached_room = omega (arith, k.on.far, reached_long.0)

    pub reached_space : i < length qs → p.count < length p.qualities
    reached_space h = omega (arith, h, k.few, k.on.out.count, reached_long.1)

    -- a used anchor is passed over
    pub reached_used : get_or used (get_or turns i 0) false ≡ true → Reached (i + 1) used p
    reached_used u =
        let o = course i in
        let v : get_or o.used (get_or turns i 0) false ≡ true = subst (λ (us : List Bool). get_or us (get_or turns i 0) false ≡ true) k.marks u in
        let e : o ≡ course (i + 1) = times_on (λ i. anchoring s c n (get_or turns i 0)) unmarked i refl (anchor_used s c n (get_or turns i 0) o v) in
        let l : length o.matches ≡ length (course (i + 1)).matches = ap (λ (x : Course). length x.matches) e in
        record {
          marks = k.marks ∙ ap (λ (x : Course). x.used) e;
          few = omega (arith, k.few, l);
          on = subst (λ (x : Course). On r ps qs x.matches p) e k.on;
        }

    -- any other leaves its marks, and its match where that is complete
    pub reached_filled : i < length qs → get_or used (get_or turns i 0) false ≡ false → {f : Fill} → f ≡ filling s c n (seats_left s) (opening c used (get_or turns i 0)) → {q : Paper} → q ≡ forming s r f.teams p → Reached (i + 1) f.used q
    reached_filled h u {f} fills {q} forms =
        let o = course i in
        let at = get_or turns i 0 in
        let v : get_or o.used at false ≡ false = subst (λ (us : List Bool). get_or us at false ≡ false) k.marks u in
        let w : f ≡ filling s c n (seats_left s) (opening c o.used at) = fills ∙ ap (λ (us : List Bool). filling s c n (seats_left s) (opening c us at)) k.marks in
        let e : closing s o f ≡ course (i + 1) = times_on (λ i. anchoring s c n (get_or turns i 0)) unmarked i refl (anchor_fills s c n at o v w) in
        let l : length (closing s o f).matches ≡ length (course (i + 1)).matches = ap (λ (x : Course). length x.matches) e in
        let g : On r ps qs (closing s o f).matches (forming s r f.teams p) = on_formed r ps qs s o.matches f.teams p k.on (omega (arith, h, k.few)) in
        record {
          marks = ap (λ (x : Course). x.used) e;
          few = omega (arith, k.few, l, few_formed (complete s f.teams) o.matches f.teams);
          on = subst (λ (x : Course). On r ps qs x.matches q) e (subst (On r ps qs (closing s o f).matches) (sym forms) g);
        }

    -- after the last anchor they are all written
    pub reached_end : n ≤ i → i ≤ n → RatedOut r (running s c turns n unmarked).matches ps qs p.count p.players p.qualities
    reached_end h l =
        let e : i ≡ n = omega arith in
        subst (λ (j : ℕ). RatedOut r (course j).matches ps qs p.count p.players p.qualities) e k.on.out
