-- The closure gives an entry's party.
use mathlib.Core.Path.{◌≡◌}
use borrow.Author.Rules.{rules}
use borrow.Author.Tests.{tests}
use lib.ListN.{length}
use Rattle.base.proofs.Arrays.{unmapped}
use Rattle.queue.specs.Columns.{no_entry}
use Rattle.queue.specs.declared.QueueEntry.{QueueEntry}
use Rattle.choice.proofs.Mapped.{mapped}
use Rattle.choice.proofs.friends.parties_in.Goals as goal

pub returns : goal.returns
returns c =
    let es = c.args.queue.entries in
    let w : length es ≡ 64 = search (unmapped, rules) in
    mapped (λ (e : QueueEntry). e.party) es c.map.ensures.items w no_entry (λ x y p q k. search (rules, tests))
