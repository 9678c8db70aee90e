-- What is read once of each place before the choices are walked. A set of places is a number whose binary digits are the places, and so
-- are small counts. No public contract cites this.
use Rattle.std.specs.Prelude.{ℕ, zero, suc, ◌+◌, ◌*◌, ◌/◌, ◌%◌, ◌<◌, ◌≡◌, Bool, true, false, not, cond, ◌&&◌, ◌||◌, List, [], ◌∷◌, map, eqb, ltb, leb, Float, length, take, get_or}
use Rattle.std.specs.Prelude.{Option, None, Some, is_some, unwrap_or}
use Rattle.std.specs.Int.Bits.{bit_or}
use Rattle.std.specs.Float.{nan}
use Rattle.base.specs.Floats as Floats
use Rattle.base.specs.Refusals.{gives}
use Rattle.roster.specs.Roster.{Roster, rules_check, rating_of, party_of, region_of}
use Rattle.queue.specs.declared.QueueEntry.{QueueEntry}
use Rattle.constraint.specs.declared.Constraints.{Constraints}
use Rattle.constraint.specs.declared.roles.RoleRequirement.{RoleRequirement}
use Rattle.constraint.specs.Constraints.{above_zero, party_together, may_meet, pairs_of, has_role, requirements_of}
use Rattle.choice.specs.Friends.{waits_in}
use Rattle.choice.specs.declared.tally.Bounds.{Bounds}

-- ---- sets and counts as numbers

-- the places of those that p holds of; the first place is the lowest binary digit
unfoldable pub marks : {A : Type 0} → (A → Bool) → List A → ℕ
marks p [] = 0
marks p (x ∷ xs) = marks p xs * 2 + cond (p x) 1 0

-- counts below 256, the first one lowest
unfoldable pub packed : List ℕ → ℕ
packed [] = 0
packed (n ∷ ns) = packed ns * 256 + n

-- the sets of the places that have this number, together
unfoldable pub pooled : ℕ → List ℕ → List ℕ → ℕ
pooled k [] sets = 0
pooled k (n ∷ ns) [] = 0
pooled k (n ∷ ns) (x ∷ sets) = cond (eqb n k) (bit_or x (pooled k ns sets)) (pooled k ns sets)

-- eight counts of 1
abbrev pub one_each : ℕ
one_each = 0x0101_0101_0101_0101

-- ---- what the constraints ask of a place; a kind that is not brought asks nothing

-- who waits, in the order of the entries
abbrev pub players_of : List QueueEntry → List ℕ
players_of = map (λ e. e.player)

-- the party and the region that count
abbrev pub party_in : Roster → Constraints → ℕ → ℕ
party_in r c p = cond c.brought.parties (party_of r p) 0

abbrev pub region_in : Roster → Constraints → ℕ → ℕ
region_in r c p = cond c.brought.regions (region_of r p) 4

-- may the player be seated at all: is the rating above 0.0, and does every row of the party wait?
abbrev pub admitted : Roster → Constraints → List ℕ → ℕ → Bool
admitted r c queue p = (not c.brought.latency || above_zero (rating_of r p)) && party_together r queue (party_in r c p)

-- must q be seated where p is, by the roster's parties?
abbrev pub wants : Roster → Constraints → ℕ → ℕ → Bool
wants r c p q = not (eqb (party_in r c p) 0) && eqb (party_in r c q) (party_in r c p)

-- must whoever waits with entry e be seated where p is, as a friend who waits, if waiting friends are brought?
abbrev pub invites : Bool → List QueueEntry → ℕ → QueueEntry → Bool
invites friends es p e = friends && (not (eqb e.party 0) && waits_in es e.party p)

-- by one or the other?
abbrev pub expects : Roster → Constraints → Bool → List QueueEntry → ℕ → QueueEntry → Bool
expects r c friends es p e = wants r c p e.player || invites friends es p e

-- may q not play against p?
abbrev pub bars : Roster → Constraints → ℕ → ℕ → Bool
bars r c p q = not (may_meet (pairs_of c.regions) (region_in r c p) (region_in r c q))

abbrev pub required : Constraints → List RoleRequirement
required c = cond c.brought.roles (requirements_of c.roles) []

-- 1 where the player counts for the requirement
abbrev pub counts_for : Roster → ℕ → RoleRequirement → ℕ
counts_for r p q = cond (has_role r q.role p) 1 0

-- ---- the limits of the counts

-- a limit as a digit; no count reaches 255
abbrev pub capped : ℕ → ℕ
capped n = cond (ltb 255 n) 255 n

abbrev pub most_of : Option ℕ → ℕ
most_of None = 255
most_of (Some n) = capped n

abbrev pub bounds_of : List RoleRequirement → Bounds
bounds_of qs =
    record {
      asked = length qs;
      least = packed (map (λ (q : RoleRequirement). capped q.least) qs);
      most = packed (map (λ (q : RoleRequirement). most_of q.most) qs);
    }

-- are the first n counts within their limits?
unfoldable pub in_limits : ℕ → ℕ → ℕ → ℕ → Bool
in_limits zero counts least most = true
in_limits (suc n) counts least most =
    (leb (least % 256) (counts % 256) && leb (counts % 256) (most % 256)) && in_limits n (counts / 256) (least / 256) (most / 256)

-- ---- the columns

-- of each place: the player; is there a row, and its rating; may the player be seated; the counts that the player adds; and the places of
-- the same player, of those who must be seated too, and of those who may not play against the player
pub record Columns : Type 0 where
  pub queued : List ℕ
  pub rows : List Bool
  pub rated : List Float
  pub admits : List Bool
  pub counts : List ℕ
  pub same : List ℕ
  pub expected : List ℕ
  pub foes : List ℕ

abbrev pub columns : List ℕ → List Bool → List Float → List Bool → List ℕ → List ℕ → List ℕ → List ℕ → Columns
columns queued rows rated admits counts same expected foes =
    record {
      queued = queued;
      rows = rows;
      rated = rated;
      admits = admits;
      counts = counts;
      same = same;
      expected = expected;
      foes = foes;
    }

-- what they say of player p at place i
pub record Says (r : Roster) (c : Constraints) (friends : Bool) (es : List QueueEntry) (x : Columns) (i p : ℕ) : Type 0 where
  pub row : get_or x.rows i false ≡ is_some (rating_of r p)
  pub rating : get_or x.rated i nan ≡ unwrap_or (rating_of r p) Floats.zero
  pub admits : get_or x.admits i false ≡ admitted r c (players_of es) p
  pub counts : get_or x.counts i 0 ≡ packed (map (counts_for r p) (required c))
  pub same : get_or x.same i 0 ≡ marks (λ q. eqb q p) (players_of es)
  pub expected : get_or x.expected i 0 ≡ marks (expects r c friends es p) es
  pub foes : get_or x.foes i 0 ≡ marks (bars r c p) (players_of es)

-- the columns and bounds stand for a roster, which passed its check, for constraints, and for these entries
pub record StandFor (r : Roster) (c : Constraints) (friends : Bool) (es : List QueueEntry) (x : Columns) (b : Bounds) : Type 0 where
  pub checked : rules_check r ≡ gives tt
  pub bounds : b ≡ bounds_of (required c)
  pub queued : take (length es) x.queued ≡ players_of es
  pub says : (i : ℕ) → i < length es → Says r c friends es x i (get_or x.queued i 0)
