-- `vectors::columns::of_floats` is safe and ends. All of a list is its first that many.
use Rattle.std.proofs.Common.{sym, length-take-le, rules}
use Rattle.vectors.proofs.columns.of_floats.Goals as goal

pub returns-then-read-rows : goal.returns-then-read-rows
returns-then-read-rows c = (search rules, sym (length-take-le _ _ (search rules)))
