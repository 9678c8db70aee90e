-- A selection's answer, in numbers: behind the check of the kinds, and for an equal rule.
use Prim.Native.Nat.{ℕ}
use mathlib.Core.Path.{◌≡◌, subst}
use mathlib.Core.Bool.{true, false}
use mathlib.Core.List.{List}
use lib.ListN.{take}
use Rattle.base.specs.Lists.{any}
use Rattle.base.specs.Refusals.{Outcome}
use Rattle.capi.specs.Scores.{is_no_kind}
use Rattle.capi.specs.Selections.{SelectNumbers, by_kinds}
use Rattle.capi.specs.declared.scores.SoftObjectives.{SoftObjectives}
use Rattle.capi.specs.declared.selections.Selected.{Selected}

-- what is so in numbers by one rule is so by an equal one
pub by_rule : (r : Selected) {o p : Outcome (List ℕ)} → o ≡ p → SelectNumbers o r → SelectNumbers p r
by_rule r e n = subst (λ (q : Outcome (List ℕ)). SelectNumbers q r) e n

module _ (s : SoftObjectives) (rest : Outcome (List ℕ)) where
  -- all listed codes are kinds: the rest answers
  pub kinds_pass : any is_no_kind (take s.len s.kinds) ≡ false → rest ≡ by_kinds s rest
  kinds_pass e = rw e

  -- a listed code is none: 1, and no place
  pub kind_refused : (r : Selected) → any is_no_kind (take s.len s.kinds) ≡ true → r.len ≡ 0 → r.refusal ≡ 1 → SelectNumbers (by_kinds s rest) r
  kind_refused r e l f = rw e (record { places = rw l; len = l; refusal = f })
