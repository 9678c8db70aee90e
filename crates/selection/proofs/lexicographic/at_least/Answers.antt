-- A sieve: what is kept and what the rest keeps make all that is kept.
use Rattle.selection.specs.declared.lexicographic.Candidate.{Candidate}
use Rattle.objective.specs.declared.soft.SoftObjective.{SoftObjective}
use mathlib.Core.Bool.{Bool}
use Prim.Native.Nat.{ℕ}
use mathlib.Core.Path.{sym, ap, ◌∙◌}
use mathlib.Core.List.{map, List}
use native.Mathlib.Omega.{arith}
use lib.Ieee.{le, Float}
use lib.ListN.{take, length-set}
use Rattle.base.proofs.Loops.{keep_on_of, keep_skip_of, keep_end_of}
use Rattle.roster.specs.Roster.{of_ratings}
use Rattle.selection.specs.Selection.{value_of}
use Rattle.selection.specs.Steps.{still_in_of}
use Rattle.selection.proofs.Laws.{keep_map}
use Rattle.selection.proofs.lexicographic.at_least.Goals.{then-bound-value, else-bound-value}
use Rattle.selection.proofs.lexicographic.at_least.Goals as goal

-- is the candidate's value at least the bound?
abbrev reaches : Float → SoftObjective → List ℕ → List Float → Candidate → Bool
reaches bound objective ids ratings candidate = le bound (value_of (of_ratings ids ratings) objective (still_in_of candidate))

pub loop-i-preserved : goal.loop-i-preserved
loop-i-preserved c =
    let s = c.args in
    let l = c.loop-i in
    let p = reaches s.bound s.objective s.ids.now s.ratings.now in
    let e = sym (ap (le s.bound) c.value.ensures) in
    elim c.if-bound-value.branch [
      | then-bound-value w ↦
          rw (w.k-is, w.out-is)
          (omega arith, simp length-set l.invariant.1, keep_on_of p s.shortlist.candidates s.shortlist.len l.out l.k l.i _ (omega arith) l.invariant.2 (omega arith) (omega arith) (e ∙ w.if-bound-value.true))
      | else-bound-value w ↦
          rw (w.k-is, w.out-is)
          (omega arith, l.invariant.1, keep_skip_of p s.shortlist.candidates s.shortlist.len l.out l.k l.i _ (omega arith) l.invariant.2 (omega arith) (e ∙ w.if-bound-value.false))
    ]

pub returns : goal.returns
returns c =
    let s = c.args in
    let l = c.loop-i in
    let r = of_ratings s.ids.now s.ratings.now in (
      ap (map still_in_of) (keep_end_of (reaches s.bound s.objective s.ids.now s.ratings.now) s.shortlist.candidates s.shortlist.len l.out l.k l.i (omega arith) l.invariant.2 (omega arith) (omega arith))
          ∙ keep_map still_in_of (λ k. le s.bound (value_of r s.objective k)) (take s.shortlist.len s.shortlist.candidates),
      omega arith,
    )
