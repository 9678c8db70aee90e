-- Minus infinity where a constraint is violated, behind the limits and both checks.
use Rattle.std.proofs.Common.{sym, ◌∙◌, arith, le-ltb}
use Rattle.base.proofs.Checks.{guard_passes, under_limit, by_second}
use Rattle.policy.proofs.Laws.{violated}
use Rattle.policy.proofs.score.Goals as goal

pub returns-then-not-hold : goal.returns-then-not-hold
returns-then-not-hold c =
    under_limit _ (by_second _ (sym c.is_overfull.ensures ∙ c.if-is_overfull.false) (by_second _ (sym c.is_over.ensures ∙ c.if-is_over.false) (le-ltb 8 c.args.count (omega arith))))
    (violated _ (sym c.hold.ensures ∙ c.if-not-hold.true)
    ∙ guard_passes _ _ c.in_ok-check_pairs.was c.check_pairs.ensures
    ∙ guard_passes _ _ c.in_ok-check_rules.was c.check_rules.ensures)
