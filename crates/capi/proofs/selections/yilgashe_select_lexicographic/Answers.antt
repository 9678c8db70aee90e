-- A code that is no kind, or the places in numbers.
use mathlib.Core.Path.{sym, ap, ◌∙◌}
use mathlib.Core.List.{List}
use Rattle.roster.specs.Roster.{of_ratings}
use Rattle.objective.specs.declared.soft.SoftObjective.{SoftObjective}
use Rattle.selection.specs.Selection.{SelectedState, lexicographic_rule}
use Rattle.capi.specs.Scores.{softs_of}
use Rattle.capi.specs.Selections.{candidates_in}
use Rattle.capi.proofs.Choices.{by_rule, kinds_pass, kind_refused}
use Rattle.capi.proofs.selections.yilgashe_select_lexicographic.Goals as goal

pub returns-then-has_no_kind : goal.returns-then-has_no_kind
returns-then-has_no_kind c =
    let a = c.args in
    let s = c.args.objectives in
    let rest = lexicographic_rule (of_ratings a.ids.now a.ratings.now) (softs_of s.kinds s.weights) s.len (candidates_in a.candidates) in
    kind_refused s rest c.refused.result (sym c.has_no_kind.ensures ∙ c.if-has_no_kind.true) c.refused.ensures.0 c.refused.ensures.1

pub returns : goal.returns
returns c =
    let a = c.args in
    let softs = ap (λ (o : List SoftObjective). lexicographic_rule (of_ratings a.ids.now a.ratings.now) o a.objectives.len (candidates_in a.candidates)) c.objectives-softs.ensures in
    let passed = kinds_pass a.objectives _ (sym c.has_no_kind.ensures ∙ c.if-has_no_kind.false) in
    by_rule _ (ap (λ (s : SelectedState). s.places) c.select.ensures ∙ softs ∙ passed) c.selected_numbers.ensures
