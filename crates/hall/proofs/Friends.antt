-- Document 02, 2.3: a full round that brings waiting friends leaves none of them behind.
use mathlib.Core.Path.{◌≡◌, refl, sym, subst}
use mathlib.Core.Bool.{true}
use mathlib.Core.List.{List, Memᴰ}
use Rattle.base.specs.Lists.{All}
use Rattle.base.proofs.Every.{kept_out}
use Rattle.queue.specs.declared.QueueEntry.{QueueEntry}
use Rattle.matchmaker.specs.Quality.{MatchState}
use Rattle.seating.specs.declared.TeamComposition.{TeamComposition}
use Rattle.candidate.specs.Exhaustive.{exhaustive_matches}
use Rattle.choice.specs.Full.{Terms, passes, passing}
use Rattle.choice.specs.WaitingFriends.{Together}
use Rattle.choice.proofs.FriendLaws.{passes_both}
use Rattle.hall.specs.Rounds.{FullRound, none_passes, best}

-- of its match, if there is one, nobody has a friend who waited and is not seated
pub round_together : (t : Terms) (s : TeamComposition) (es : List QueueEntry) {ms : List MatchState} → t.waiting_friends ≡ true → FullRound t s es ms → All (Together es) ms
round_together t s es on (none_passes e) = tt
round_together t s es on (best m before behind e tops) =
    let one : Memᴰ m (passing t s es) = subst (Memᴰ m) (sym e) (mathlib.Core.List.Memᴰ.append_right before (mathlib.Core.List.Memᴰ.head refl)) in
    ((passes_both t es m (kept_out (passes t es) m (exhaustive_matches s es) one).1).1 on, tt)
