-- Each answer, in numbers.
use mathlib.Core.Path.{◌∙◌}
use Rattle.capi.proofs.BestChoice.{choice_refused, choice_nothing, choice_found}
use Rattle.capi.proofs.rounds.in_numbers.Goals as goal

pub returns-in-Err : goal.returns-in-Err
returns-in-Err c =
    let e = c.unfound.ensures in
    choice_refused _ _ c.in-Err.is e.0 e.1.0 e.1.1.0 (e.1.1.1 ∙ c.number.ensures)

pub returns-in_default : goal.returns-in_default
returns-in_default c =
    let e = c.unfound-in_default.ensures in
    choice_nothing _ c.in-Ok.is _ c.in_default.is e.0 e.1.0 e.1.1.0 e.1.1.1

pub returns : goal.returns
returns c = choice_found c.args.choice c.in-Ok.is c.in-Some.is
