-- The check's refusal; else the best of all choices, and what it comes to.
use mathlib.Core.Path.{◌≡◌, sym, ap, ◌∙◌}
use borrow.Author.Rules.{rules}
use lib.ListN.{length, take}
use Rattle.std.specs.Prelude.{Err}
use Rattle.base.specs.Refusals.{outcome_of}
use Rattle.base.proofs.Arrays.{unmapped}
use Rattle.base.proofs.Checks.{guard_refuses, guard_passes}
use Rattle.roster.specs.Roster.{of_rules}
use Rattle.choice.specs.Full.{terms, chosen, choice_of}
use Rattle.choice.proofs.Checking.{held}
use Rattle.choice.proofs.Stepping.{all_weighed}
use Rattle.choice.proofs.best_choice.Goals as goal

pub returns-in_err-check : goal.returns-in_err-check
returns-in_err-check c =
    let s = c.args in
    let t = terms (of_rules s.ids.now s.ratings.now s.parties.now s.roles.now s.regions.now) s.constraints s.friends s.objectives s.count in
    let r : c.from_residual.result ≡ Err c.in_err-check.field-0.0 = search rules in
    ap choice_of r ∙ guard_refuses (chosen t s.sizes (take s.queue.len s.queue.entries)) _ c.in_err-check.was c.check.ensures

pub best_of-requires : goal.best_of-requires
best_of-requires c = sym c.check.ensures ∙ ap outcome_of c.in_ok-check.was

pub returns : goal.returns
returns c =
    let s = c.args in
    let r = of_rules s.ids.now s.ratings.now s.parties.now s.roles.now s.regions.now in
    let t = terms r s.constraints s.friends s.objectives s.count in
    let checked = c.check.ensures in
    let passed = c.in_ok-check.was in
    let w : length s.queue.entries ≡ 64 = search (unmapped, rules, c.well_formed.0) in
    let z = held r s.constraints s.count s.sizes s.queue.entries s.queue.len w (sym checked ∙ ap outcome_of passed) in
    c.concluded.ensures
    ∙ all_weighed t s.sizes s.queue.entries s.queue.len z.a z.b c.best_of.ensures
    ∙ guard_passes (chosen t s.sizes (take s.queue.len s.queue.entries)) _ passed checked
