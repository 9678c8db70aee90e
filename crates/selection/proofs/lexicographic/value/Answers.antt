-- `value` meets its contract, by those of the three it calls.
use Rattle.selection.proofs.lexicographic.value.Goals as goal

pub returns : goal.returns
returns c = rw (c.value_from.ensures, c.rated_latency-latency.ensures, c.rated_quality-quality.ensures)
