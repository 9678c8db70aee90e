-- A refusal stays, and what passes is left to the regions.
use Rattle.std.proofs.Common.{◌≡◌, ◌∙◌, ap, sym, rules}
use Rattle.std.specs.Prelude.{Err}
use Rattle.base.specs.Refusals.{outcome_of}
use Rattle.roster.proofs.Laws.{refused_still}
use Rattle.roster.proofs.check_columns_with_regions.Goals as goal

pub returns-in_err-check_columns : goal.returns-in_err-check_columns
returns-in_err-check_columns c =
    let a = c.args in
    let x = c.in_err-check_columns.field-0.0 in
    let r : c.from_residual.result ≡ Err x = search rules in
    ap outcome_of r ∙ ap outcome_of (sym (c.in_err-check_columns.was)) ∙ refused_still a.ids.now a.lengths.now a.regions.now c.check_columns.result (c.in_err-check_columns.was) c.check_columns.ensures
