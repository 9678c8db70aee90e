-- The counts of each place so far, all small.
use mathlib.Core.Path.{refl, ◌∙◌}
use mathlib.Core.List.{map}
use native.Mathlib.Omega.{arith}
use lib.ListN.{length-set}
use Rattle.base.proofs.Arrays.{fill_on}
use Rattle.roster.specs.Roster.{of_roles}
use Rattle.constraint.specs.Constraints.{requirements_of}
use Rattle.choice.specs.Reading.{packed, one_each, counts_for}
use Rattle.choice.proofs.Packing.{low_start, low_on}
use borrow.Author.Rules.{rules}
use Rattle.choice.proofs.marks.counts_of.Goals as goal

pub loop-i-init : goal.loop-i-init
loop-i-init c = (search rules, refl, low_start one_each 64)

pub loop-i-preserved : goal.loop-i-preserved
loop-i-preserved c =
    let l = c.loop-i in
    (simp length-set l.invariant.0, fill_on (λ p. packed (map (counts_for (of_roles c.args.ids.now c.args.roles.now) p) (requirements_of c.args.required))) c.args.queued.now l.out l.i 0 (omega arith) (omega (arith, c.requires)) l.invariant.1 (c.counted.ensures.0 ∙ rw c.role_of.ensures), low_on one_each l.out l.i _ l.invariant.2 c.counted.ensures.1)
