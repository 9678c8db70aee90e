-- What is known of the constraints while a choice fills: the tally grows with each player, and tells at the last seat whether the choice
-- passes. No public contract cites this.
use Rattle.std.specs.Prelude.{ℕ, ◌+◌, ◌≤◌, ◌≡◌, Bool, not, cond, ◌&&◌, ◌||◌, List, map, eqb, length, take, drop}
use Rattle.std.specs.Int.Bits.{bit_and, bit_or}
use Rattle.base.specs.Lists.{any, every, member, Within}
use Rattle.queue.specs.declared.QueueEntry.{QueueEntry}
use Rattle.roster.specs.Roster.{Roster}
use Rattle.matchmaker.specs.Quality.{MatchState, seated}
use Rattle.objective.specs.declared.soft.SoftObjective.{SoftObjective}
use Rattle.constraint.specs.declared.Constraints.{Constraints}
use Rattle.constraint.specs.declared.roles.RoleRequirement.{RoleRequirement}
use Rattle.constraint.specs.Constraints.{role_count}
use Rattle.seating.specs.declared.TeamComposition.{TeamComposition}
use Rattle.seating.specs.Seating.{lineup}
use Rattle.candidate.specs.Walks.{through}
use Rattle.choice.specs.Full.{terms}
use Rattle.choice.specs.Steps.{SoFar, weighed}
use Rattle.choice.specs.Sums.{Summing}
use Rattle.choice.specs.Reading.{marks, packed, players_of, admitted, expects, bars, required, in_limits, Columns, StandFor}
use Rattle.choice.specs.declared.Sums.{Sums}
use Rattle.choice.specs.declared.tally.Bounds.{Bounds}
use Rattle.choice.specs.declared.tally.Tally.{Tally}

-- are the sizes of the table those that are asked for?
abbrev pub sizes_fit : Constraints → TeamComposition → Bool
sizes_fit c s = not c.brought.sizes || (eqb s.a c.sizes.a && eqb s.b c.sizes.b)

-- nobody is seated
abbrev pub no_tally : Bool → Tally
no_tally fine = record { fine = fine; counts = 0; present = 0; wanted = 0; barred = 0 }

-- the tally with one more player, who joins A or B, by what the columns say of the place
unfoldable pub tally_with : Tally → Bool → Bool → ℕ → ℕ → ℕ → ℕ → Tally
tally_with t first admits counts same expected foes =
    record {
      fine = t.fine && (admits && (first || eqb (bit_and t.barred same) 0));
      counts = t.counts + counts;
      present = bit_or t.present same;
      wanted = bit_or t.wanted expected;
      barred = cond first (bit_or t.barred foes) t.barred;
    }

-- does the choice of this tally pass?
unfoldable pub fits : Bounds → Tally → Bool
fits b t = t.fine && (eqb (bit_and t.wanted t.present) t.wanted && in_limits b.asked t.counts b.least b.most)

-- a match while it fills, with its tally
pub record Tallying (r : Roster) (c : Constraints) (friends : Bool) (s : TeamComposition) (es : List QueueEntry) (m : MatchState) (t : Tally) : Type 0 where
  pub lined : m ≡ lineup m.a.players m.b.players
  pub among : Within (seated m) (players_of es)
  -- everyone may be seated, and nobody of B may not play against somebody of A
  pub fine : t.fine ≡ (sizes_fit c s && (every (admitted r c (players_of es)) (seated m) && every (λ p. every (λ q. not (bars r c p q)) m.b.players) m.a.players))
  pub counts : t.counts ≡ packed (map (λ (q : RoleRequirement). role_count r q.role (seated m)) (required c))
  pub present : t.present ≡ marks (λ q. member q (seated m)) (players_of es)
  pub wanted : t.wanted ≡ marks (λ e. any (λ p. expects r c friends es p e) (seated m)) es
  pub barred : t.barred ≡ marks (λ q. any (λ p. bars r c p q) m.a.players) (players_of es)

-- what a walk over these columns comes to, whatever roster, constraints and entries they stand for: every choice is weighed
abbrev pub Walked : TeamComposition → Columns → Bounds → ℕ → ℕ → ℕ → MatchState → Sums → Tally → List SoftObjective → ℕ → SoFar → SoFar → Type 0
Walked s x b from rest left m sums tally objectives count best out =
    (r : Roster) (c : Constraints) (friends : Bool) (es : List QueueEntry) → from + rest ≤ length es → StandFor r c friends es x b → Summing r s m sums → Tallying r c friends s es m tally
    → out ≡ through s (weighed (terms r c friends objectives count) es) m left (take rest (drop from x.queued)) best
