-- The refusal of the terms, or else the one behind it.
use Rattle.base.specs.Refusals.{refused, refusal_number}
use Rattle.base.proofs.Checks.{guard_refuses, guard_passes}
use Rattle.hall.proofs.rounds.first_refusal.Goals as goal

pub returns-in-Err : goal.returns-in-Err
returns-in-Err c =
    guard_refuses (refused (refusal_number c.args.behind)) _ c.in-Err.is c.check_terms.ensures

pub returns : goal.returns
returns c =
    guard_passes (refused (refusal_number c.args.behind)) _ c.in_default.is c.check_terms.ensures
