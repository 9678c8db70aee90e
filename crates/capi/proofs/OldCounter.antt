-- Document 02, 2.1, of the exported searches: their promises are the searches' rules in numbers.
use Prim.Native.Nat.{ℕ}
use mathlib.Core.Path.{◌≡◌, refl, sym, ap, ◌∙◌}
use mathlib.Core.Bool.{◌||◌, ◌&&◌}
use mathlib.Core.List.{List, [], ◌∷◌}
use native.Mathlib.Omega.{arith}
use lib.Dec.{ltb, eqb}
use lib.Ieee.{Float}
use lib.ListN.{length}
use Rattle.base.specs.Lists.{any, every, distinct}
use Rattle.base.specs.Refusals.{Outcome, refused, gives, guarded}
use Rattle.base.proofs.Cases.{pick}
use Rattle.queue.specs.Queue.{QueueState, joined_over}
use Rattle.roster.specs.Roster.{Roster, too_long, is_region, ratings_check}
use Rattle.matchmaker.specs.Quality.{MatchState, quality_of}
use Rattle.objective.specs.declared.score.MatchObjective.{MatchObjective}
use Rattle.seating.specs.declared.TeamComposition.{TeamComposition}
use Rattle.seating.specs.Seating.{Sheets, HandedOut, sizes_over, are_short, handed_out, read_off, told_by}
use Rattle.seating.specs.Searching.{search_check}
use Rattle.greedy.specs.Greedy.{greedy_matches, greedy_rule}
use Rattle.beam.specs.Beam.{beam_rule}
use Rattle.seating.specs.Seats.{Seating}
use Rattle.greedy.specs.Copies.{Copied}
use Rattle.greedy.proofs.OldCounter.{greedy_told, greedy_rule_copied}
use Rattle.beam.proofs.OldCounter.{beam_told}
use Rattle.base.specs.Numbers.{refusal_of, value_or}
use Rattle.capi.specs.Searches.{formed_numbers, SearchNumbers}
use Rattle.capi.specs.declared.searches.Formed.{Formed}

-- ---- who is seated

module _ (s : TeamComposition) (f : Formed) (players : List ℕ) (qualities : List Float) where
  -- the first `count` matches on the sheet are those that the rule's call tells
  told_in_numbers : (h : HandedOut) → SearchNumbers h f players qualities → read_off s f.count players ≡ told_by s h
  told_in_numbers h n =
      let c : f.count ≡ value_or 0 h.answer = ap (λ (x : Formed). x.count) n.answer in
      let p : players ≡ h.sheets.players = ap (λ (x : Sheets). x.players) n.left in
      rw (c, p)

  -- so they seat A + B different queued guests, and nobody in two of them
  pub greedy_export_seats : (r : Roster) (q : QueueState) (sheets : Sheets) → SearchNumbers (greedy_rule s r q sheets) f players qualities →
      Seating s q.entries (read_off s f.count players)
  greedy_export_seats r q sheets n = rw (told_in_numbers (greedy_rule s r q sheets) n) (greedy_told s r q sheets)

  pub beam_export_seats : (width : ℕ) (o : MatchObjective) (r : Roster) (q : QueueState) (clock : ℕ) (sheets : Sheets) →
      SearchNumbers (beam_rule s width o r q clock sheets) f players qualities → Seating s q.entries (read_off s f.count players)
  beam_export_seats width o r q clock sheets n = rw (told_in_numbers (beam_rule s width o r q clock sheets) n) (beam_told s width o r q clock sheets)

-- ---- copies

-- a refusal is not 0, so a 0 that crosses tells that the call was not refused
abbrev Numbered : {A : Type 0} → Outcome A → Type 0
Numbered (refused n) = n ≡ 0 → ⊥
Numbered (gives x) = Unit {0}

guarded_numbered : {A : Type 0} (o : Outcome (Unit {0})) (v : Outcome A) → Numbered o → Numbered v → Numbered (guarded o v)
guarded_numbered (refused n) v h k = h
guarded_numbered (gives u) v h k = k

-- nor is any of a greedy search's
greedy_numbered : (s : TeamComposition) (r : Roster) (q : QueueState) (players qualities : ℕ) → Numbered (search_check s r q players qualities)
greedy_numbered s r q players qualities =
    pick Numbered (ltb 64 q.size || sizes_over s) (λ e. omega (arith, e))
    (guarded_numbered (ratings_check r) _
    (pick Numbered (any too_long (length r.ids ∷ length r.ratings ∷ [])) (λ e. omega (arith, e))
    (pick Numbered (every (λ n. eqb n (length r.ids)) (length r.ratings ∷ []) && (distinct r.ids && every is_region [])) tt (λ e. omega (arith, e))))
    (pick Numbered (are_short players qualities) (λ e. omega (arith, e)) (pick Numbered (any joined_over q.entries) (λ e. omega (arith, e)) tt)))

-- what is handed out where 0 crosses is a number of matches
counted : (quality : MatchState → Float) (sheets : Sheets) (o : Outcome (List MatchState)) → Numbered o → refusal_of (handed_out quality o sheets).answer ≡ 0 →
    (n : ℕ) × ((handed_out quality o sheets).answer ≡ gives n)
counted quality sheets (refused n) h e = absurd (h e)
counted quality sheets (gives ms) h e = (length ms, refl)

module _ (s : TeamComposition) (r : Roster) (sheets : Sheets) where
  greedy_counted : (q : QueueState) (f : Formed) (players : List ℕ) (qualities : List Float) → SearchNumbers (greedy_rule s r q sheets) f players qualities → f.refusal ≡ 0 →
      (n : ℕ) × ((greedy_rule s r q sheets).answer ≡ gives n)
  greedy_counted q f players qualities n e =
      let check = search_check s r q (length sheets.players) (length sheets.qualities) in
      counted (λ m. quality_of r m.a.players m.b.players) sheets (guarded check (gives (greedy_matches s r q.entries)))
      (guarded_numbered check _ (greedy_numbered s r q (length sheets.players) (length sheets.qualities)) tt)
      (sym (ap (λ (x : Formed). x.refusal) n.answer) ∙ e)

  -- so two exported searches that are not refused, the second with later copies put in, answer alike and leave their sheets alike
  pub greedy_export_copied : (queue other : QueueState) (f g : Formed) (ps qs : List ℕ) (xs ys : List Float) → Copied queue.entries other.entries →
      SearchNumbers (greedy_rule s r queue sheets) f ps xs → SearchNumbers (greedy_rule s r other sheets) g qs ys → f.refusal ≡ 0 → g.refusal ≡ 0 →
      (g ≡ f) × (qs ≡ ps) × (ys ≡ xs)
  greedy_export_copied queue other f g ps qs xs ys h m n a b =
      let i = greedy_counted queue f ps xs m a in
      let j = greedy_counted other g qs ys n b in
      let e : greedy_rule s r other sheets ≡ greedy_rule s r queue sheets = greedy_rule_copied s r queue other sheets i.0 j.0 h i.1 j.1 in
      let l = n.left ∙ ap (λ (x : HandedOut). x.sheets) e ∙ sym m.left in
      (n.answer ∙ ap (λ (x : HandedOut). formed_numbers x.answer) e ∙ sym m.answer, ap (λ (x : Sheets). x.players) l, ap (λ (x : Sheets). x.qualities) l)
