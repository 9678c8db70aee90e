-- What the lengths leave open the ids decide.
use Rattle.std.proofs.Common.{sym, ◌∙◌}
use Rattle.roster.proofs.Laws.{ids_decide}
use Rattle.roster.proofs.check_columns.Goals as goal

pub returns-then-not-all_different : goal.returns-then-not-all_different
returns-then-not-all_different c =
    let k = c.check_lengths in
    ids_decide c.args.ids.now c.args.lengths.now k.result k.ensures c.in_ok-check_lengths.was (sym c.all_different.ensures ∙ c.if-not-all_different.true)

pub returns : goal.returns
returns c =
    let k = c.check_lengths in
    ids_decide c.args.ids.now c.args.lengths.now k.result k.ensures c.in_ok-check_lengths.was (sym c.all_different.ensures ∙ c.if-not-all_different.false)
