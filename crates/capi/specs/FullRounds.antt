-- What the exported best choice answers.
use Rattle.std.specs.Prelude.{◌≡◌, false, cond, take}
use Rattle.base.specs.Lists.{any}
use Rattle.base.specs.Refusals.{Outcome, refused}
use Rattle.queue.specs.Queue.{QueueState}
use Rattle.roster.specs.Roster.{Roster}
use Rattle.matchmaker.specs.Quality.{match_of}
use Rattle.seating.specs.declared.TeamComposition.{TeamComposition}
use Rattle.choice.specs.Full.{Selection, terms, choice_rule, teams_chosen, choices_tried, is_chosen}
use Rattle.base.specs.Numbers.{refusal_of}
use Rattle.capi.specs.Rules.{constraints_of}
use Rattle.capi.specs.Scores.{is_no_kind, softs_of}
use Rattle.capi.specs.declared.rounds.Chosen.{Chosen}
use Rattle.capi.specs.declared.rules.Constraints.{Constraints}
use Rattle.capi.specs.declared.scores.SoftObjectives.{SoftObjectives}

-- each part of the answer as the choice has it; only the places of its teams behind their players are free
pub record ChoiceNumbers (o : Outcome Selection) (r : Chosen) : Type 0 where
  pub teams : match_of r.teams ≡ teams_chosen o
  pub tried : r.tried ≡ choices_tried o
  pub found : r.found ≡ is_chosen o
  pub refusal : r.refusal ≡ refusal_of o

-- a soft kind that is none, or the best choice, for which waiting friends are not brought: only rounds know them
abbrev pub choice_numbers : Roster → Constraints → SoftObjectives → TeamComposition → QueueState → Outcome Selection
choice_numbers r c o s q =
    cond (any is_no_kind (take o.len o.kinds)) (refused 1)
    (choice_rule (terms r (constraints_of c) false (softs_of o.kinds o.weights) o.len) s q)
