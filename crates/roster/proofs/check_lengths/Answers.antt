-- One law for each return.
use Rattle.std.proofs.Common.{sym, ◌∙◌, arith}
use Rattle.roster.proofs.Laws.{long_ids, long_column, uneven, even}
use Rattle.roster.proofs.check_lengths.Goals as goal
use Rattle.roster.proofs.check_lengths.Goals.{then-rows-gt128-via-then-rows-gt128, then-rows-gt128-via-else-rows-gt128+then-any_too_long}

pub returns-then-rows-gt128 : goal.returns-then-rows-gt128
returns-then-rows-gt128 c =
    let ls = c.args.lengths.now in
    elim c.then-rows-gt128.branch [
      | then-rows-gt128-via-then-rows-gt128 w ↦ long_ids c.args.rows ls (omega arith)
      | then-rows-gt128-via-else-rows-gt128+then-any_too_long w ↦ long_column c.args.rows ls (omega arith) (sym w.any_too_long.ensures ∙ w.if-any_too_long.true)
    ]

pub returns-then-not-all_of_length : goal.returns-then-not-all_of_length
returns-then-not-all_of_length c =
    uneven c.args.rows c.args.lengths.now (omega arith) (sym c.any_too_long.ensures ∙ c.if-any_too_long.false) (sym c.all_of_length.ensures ∙ c.if-not-all_of_length.true)

pub returns : goal.returns
returns c =
    even c.args.rows c.args.lengths.now (omega arith) (sym c.any_too_long.ensures ∙ c.if-any_too_long.false) (sym c.all_of_length.ensures ∙ c.if-not-all_of_length.false)
