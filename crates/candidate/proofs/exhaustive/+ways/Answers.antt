-- Pascal's rule, and nothing to do where there are too few.
use mathlib.Core.Path.{sym}
use native.Mathlib.Omega.{arith}
use Rattle.candidate.proofs.Walking.{ways_none, ways_short, ways_step, ways_small}
use Rattle.candidate.proofs.exhaustive.+ways.Goals as goal

pub returns-then-k-eq0 : goal.returns-then-k-eq0
returns-then-k-eq0 t c =
    rw c.if-k-eq0.true (sym (ways_none c.args.n))

pub returns-then-n-k : goal.returns-then-n-k
returns-then-n-k t c =
    ways_short c.args.n c.args.k c.if-n-k.true

pub ways-requires : goal.ways-requires
ways-requires t c = omega arith

pub ways-requires-2 : goal.ways-requires-2
ways-requires-2 t c = omega arith

pub overflow_add-result : goal.overflow_add-result
overflow_add-result t c =
    omega (arith, ways_small c.args.n c.args.k c.requires, ways_step c.args.n c.args.k c.if-k-eq0.false c.if-n-k.false)

pub returns : goal.returns
returns t c =
    omega (arith, ways_step c.args.n c.args.k c.if-k-eq0.false c.if-n-k.false)
