-- A code that is no kind, or the best choice in numbers.
use mathlib.Core.Path.{sym, ap, subst, ◌∙◌}
use mathlib.Core.Bool.{false}
use mathlib.Core.List.{List}
use Rattle.base.specs.Refusals.{Outcome}
use Rattle.queue.specs.Queue.{queue_of}
use Rattle.roster.specs.Roster.{of_rules}
use Rattle.objective.specs.declared.soft.SoftObjective.{SoftObjective}
use Rattle.constraint.specs.declared.Constraints.{Constraints}
use Rattle.choice.specs.Full.{Selection, terms, choice_rule}
use Rattle.capi.specs.FullRounds.{ChoiceNumbers}
use Rattle.capi.specs.Rules.{constraints_of}
use Rattle.capi.proofs.BestChoice.{none_chosen}
use Rattle.capi.proofs.rounds.yilgashe_best_choice.Goals as goal

pub returns-then-has_no_kind : goal.returns-then-has_no_kind
returns-then-has_no_kind c =
    let e = c.unfound.ensures in
    rw (sym c.has_no_kind.ensures ∙ c.if-has_no_kind.true) (none_chosen _ e.0 e.1.1.0 1 e.1.0 e.1.1.1)

pub returns : goal.returns
returns c =
    let a = c.args in
    let r = of_rules a.ids.now a.ratings.now a.parties.now a.roles.now a.regions.now in
    let n = c.args.objectives.len in
    let e = c.best_choice.ensures
    ∙ ap (λ (q : Constraints). choice_rule (terms r q false c.objectives-softs.result n) a.sizes (queue_of a.queue)) c.constraints_of-all.ensures
    ∙ ap (λ (o : List SoftObjective). choice_rule (terms r (constraints_of a.constraints) false o n) a.sizes (queue_of a.queue)) c.objectives-softs.ensures in
    rw (sym c.has_no_kind.ensures ∙ c.if-has_no_kind.false) (subst (λ (o : Outcome Selection). ChoiceNumbers o c.in_numbers.result) e c.in_numbers.ensures)
