-- A search among the kinds that count.
use Prim.Native.Nat.{ℕ}
use mathlib.Core.Path.{◌≡◌, ap, ◌∙◌}
use Rattle.std.proofs.Common.{rules}
use borrow.Author.Tests.{tests}
use lib.ListN.{length, take}
use Rattle.std.proofs.lemmas.Iterator.{YieldsList-from_slice}
use Rattle.base.specs.Lists.{any}
use Rattle.base.proofs.Arrays.{take_held}
use Rattle.base.proofs.Chains.{any_ran}
use Rattle.capi.specs.Scores.{is_no_kind}
use Rattle.capi.proofs.scores.SoftObjectives.has_no_kind.Goals as goal

pub returns : goal.returns
returns c =
    let s = c.args.self in
    let f : length s.kinds ≡ 8 = search rules in
    any_ran is_no_kind _ c.any.ensures.ran (YieldsList-from_slice (take c.held.result s.kinds) cc) (λ x b q k. search (rules, tests))
    ∙ ap (any is_no_kind) (ap (λ (m : ℕ). take m s.kinds) c.held.ensures ∙ take_held s.kinds s.len 8 f)
