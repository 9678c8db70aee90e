-- The best so far, one choice at a time, as the code keeps it, and what all choices come to.
use Prim.Native.Nat.{ℕ, ◌+◌, ◌≤◌}
use mathlib.Core.Path.{◌≡◌, refl, sym, ap, ◌∙◌}
use mathlib.Core.Bool.{Bool, true, false, cond, ◌&&◌}
use mathlib.Core.List.{List, [], map}
use Rattle.std.specs.Prelude.{None, Some, option_map}
use Rattle.std.specs.Bool.{then_some}
use lib.Ieee.{Float}
use lib.ListN.{take}
use Rattle.base.specs.Refusals.{refused, gives}
use Rattle.base.proofs.Arrays.{take_map}
use Rattle.base.proofs.Cases.{pick}
use Rattle.queue.specs.declared.QueueEntry.{QueueEntry}
use Rattle.matchmaker.specs.declared.ProposedMatch.{ProposedMatch}
use Rattle.matchmaker.specs.Quality.{MatchState, match_of}
use Rattle.seating.specs.declared.TeamComposition.{TeamComposition}
use Rattle.seating.specs.Seating.{seats_of, lineup}
use Rattle.seating.specs.Steps.{Scored}
use Rattle.candidate.specs.Walks.{through}
use Rattle.choice.specs.Full.{Terms, chosen}
use Rattle.choice.specs.Steps.{SoFar, unweighed, passed, skipped, weighed, teams_in, concluding}
use Rattle.choice.proofs.Weighing.{best_plain}

-- ---- walk

-- each choice is one more that was tried, whether it passes or not
pub tried_either : (fine : Bool) (b : SoFar) (m : MatchState) (score : Float) → (cond fine (passed b m score) (skipped b)).tried ≡ b.tried + 1
tried_either fine b m score = pick (λ (x : SoFar). x.tried ≡ b.tried + 1) fine refl refl

-- ---- concluded

module _ (tried : ℕ) (found many nan : Bool) (p : Scored) {bad : Bool} (e : bad ≡ (many && nan)) where
  abbrev all : SoFar
  all = record { tried = tried; best = cond found (Some p) None; many = many; nan = nan }

  -- two or more passed, and one scores NaN: refusal 5
  pub concludes_refused : bad ≡ true → refused 5 ≡ concluding all
  unfolding concluding
  concludes_refused b = rw (sym e ∙ b)

  -- else the best that was found, or nothing
  pub concludes_given : bad ≡ false → gives (record { best = teams_in (cond found (Some p) None); tried = tried }) ≡ concluding all
  unfolding concluding
  concludes_given b = rw (sym e ∙ b)

-- the teams that are given where a best was found
pub found_teams : (found : Bool) (m : ProposedMatch) (score : Float) → option_map match_of (then_some found m) ≡ teams_in (cond found (Some (record { teams = match_of m; score = score })) None)
found_teams true m score = refl
found_teams false m score = refl

-- ---- best_choice

-- the walk from nobody seated and nothing tried comes to what the full round chooses
pub all_weighed : (t : Terms) (s : TeamComposition) (es : List QueueEntry) (n : ℕ) {b : SoFar} → s.a ≤ 8 → s.b ≤ 8 → b ≡ through s (weighed t (take n es)) (lineup [] []) (seats_of s) (take n (map (λ x. x.player) es)) unweighed → concluding b ≡ chosen t s (take n es)
all_weighed t s es n h g w =
    ap concluding
    (w ∙ ap (λ (x : List ℕ). through s (weighed t (take n es)) (lineup [] []) (seats_of s) x unweighed) (take_map (λ (x : QueueEntry). x.player) n es))
    ∙ best_plain t s (take n es) h g
