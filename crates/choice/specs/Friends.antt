-- Document 02, 2.3: waiting friends. "each waiting guest with the non-zero entry party of a seated guest must be seated".
use Rattle.std.specs.Prelude.{ℕ, Bool, not, ◌&&◌, ◌||◌, List, eqb}
use Rattle.base.specs.Lists.{any, every, member}
use Rattle.queue.specs.declared.QueueEntry.{QueueEntry}
use Rattle.matchmaker.specs.Quality.{MatchState, seated}

-- does the guest wait with this party? A guest may have more than one entry, and each counts
abbrev pub waits_in : List QueueEntry → ℕ → ℕ → Bool
waits_in waiting party guest = any (λ e. eqb e.player guest && eqb e.party party) waiting

-- is the entry's party, unless it is 0, the entry party of one of these guests?
abbrev pub is_friend_of : List QueueEntry → List ℕ → QueueEntry → Bool
is_friend_of waiting guests e = not (eqb e.party 0) && any (waits_in waiting e.party) guests

-- is everyone seated who waits with the entry party of somebody seated, in either team?
abbrev pub friends_seated : List QueueEntry → MatchState → Bool
friends_seated waiting m = every (λ e. not (is_friend_of waiting (seated m) e) || member e.player (seated m)) waiting
