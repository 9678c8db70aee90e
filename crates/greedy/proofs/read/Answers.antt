-- Three arrays filled: what the entries so far have.
use Prim.Native.Nat.{◌<◌}
use mathlib.Core.Path.{refl}
use lib.ListN.{length, length-set}
use Rattle.base.proofs.Arrays.{unmapped, fill_on}
use Rattle.queue.specs.declared.QueueEntry.{QueueEntry}
use Rattle.queue.specs.Columns.{no_entry}
use borrow.Author.Rules.{rules}
use Rattle.greedy.proofs.read.Goals as goal

pub loop-i-preserved : goal.loop-i-preserved
loop-i-preserved c =
    let es = c.args.queue.entries in
    let l = c.loop-i in
    let v = l.invariant in
    let h : l.i < length es = search (unmapped, rules) in (
      simp length-set v.0,
      fill_on (λ (e : QueueEntry). e.player) es l.players l.i no_entry h (search rules) v.1 refl,
      fill_on (λ (e : QueueEntry). e.rating) es l.entered l.i no_entry h (search rules) v.2 refl,
      fill_on (λ (e : QueueEntry). e.joined) es l.joined l.i no_entry h (search rules) v.3 refl,
    )
