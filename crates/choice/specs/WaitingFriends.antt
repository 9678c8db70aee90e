-- Document 02, 2.3, as a user would say it: what waiting friends ask of a table, and what they do not ask.
use Rattle.std.specs.Prelude.{ℕ, ◌≡◌, Bool, true, false, ◌↔◌, ◌⊎◌}
use mathlib.Core.List.{List, Memᴰ}
use Rattle.base.specs.Lists.{member}
use Rattle.queue.specs.declared.QueueEntry.{QueueEntry}
use Rattle.roster.specs.Roster.{Roster}
use Rattle.matchmaker.specs.Quality.{MatchState, seated}
use Rattle.objective.specs.declared.soft.SoftObjective.{SoftObjective}
use Rattle.constraint.specs.declared.Constraints.{Constraints}
use Rattle.constraint.specs.Constraints.{constraints_hold}
use Rattle.choice.specs.Friends.{friends_seated}
use Rattle.choice.specs.Full.{Terms, terms, passes}

-- two entries that wait with the same party, which is not 0
pub record Friends (waiting : List QueueEntry) (d e : QueueEntry) : Type 0 where
  pub one : Memᴰ d waiting
  pub other : Memᴰ e waiting
  pub party : e.party ≡ d.party
  pub some : d.party ≡ 0 → ⊥

-- no seated guest has a waiting friend who is not seated
abbrev pub Together : List QueueEntry → MatchState → Type 0
Together waiting m =
    (d e : QueueEntry) → Friends waiting d e → member d.player (seated m) ≡ true → member e.player (seated m) ≡ true

-- everyone who waits with this party is seated; nobody who does is
abbrev pub Whole : List QueueEntry → MatchState → ℕ → Type 0
Whole waiting m party = (e : QueueEntry) → Memᴰ e waiting → e.party ≡ party → member e.player (seated m) ≡ true

abbrev pub Absent : List QueueEntry → MatchState → ℕ → Type 0
Absent waiting m party = (e : QueueEntry) → Memᴰ e waiting → e.party ≡ party → member e.player (seated m) ≡ false

-- the roster with other parties
abbrev pub with_parties : Roster → List ℕ → Roster
with_parties r parties =
    record { ids = r.ids; ratings = r.ratings; deviations = r.deviations; parties = parties; roles = r.roles; regions = r.regions }

pub record WaitingFriends : Type 0 where
  -- a table seats a party whole or not at all
  pub whole : (waiting : List QueueEntry) (m : MatchState) → friends_seated waiting m ≡ true → (party : ℕ) → (party ≡ 0 → ⊥) →
      Whole waiting m party ⊎ Absent waiting m party
  -- no seated guest has a waiting friend who is not seated; and no more is asked, so who does not wait blocks nothing
  pub none_left : (waiting : List QueueEntry) (m : MatchState) → (friends_seated waiting m ≡ true) ↔ Together waiting m
  -- a choice passes where it meets the constraints, the party kind too if it is brought, and, if they are brought, waiting friends
  pub both : (t : Terms) (waiting : List QueueEntry) (m : MatchState) →
      (passes t waiting m ≡ true) ↔ ((constraints_hold t.roster t.constraints m ≡ true) × (t.waiting_friends ≡ true → Together waiting m))
  -- a friend who never came blocks nothing: unless the party kind is brought, the same choices pass whatever parties the roster has
  pub at_home : (r : Roster) (parties : List ℕ) (c : Constraints) (friends : Bool) (objectives : List SoftObjective) (count : ℕ) (waiting : List QueueEntry) (m : MatchState) → c.brought.parties ≡ false →
      passes (terms (with_parties r parties) c friends objectives count) waiting m ≡ passes (terms r c friends objectives count) waiting m
