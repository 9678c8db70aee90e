-- Every place stands at itself.
use mathlib.Core.Path.{◌∙◌}
use Rattle.std.proofs.lemmas.List.FromFn.{fill_by_all}
use Rattle.greedy.proofs.InOrder.{places_range}
use borrow.Author.Rules.{rules}
use Rattle.greedy.proofs.as_they_come.Goals as goal

pub returns : goal.returns
returns c =
    let e = c.from_fn.ensures.items in
    fill_by_all (λ x. x) c.from_fn.result 64 0 e.long (λ k h. let f = e.at k 0 h in search rules) ∙ places_range 0 64
