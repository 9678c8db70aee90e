-- An array filled: what is written are the players of the first entries.
use Rattle.std.proofs.Common.{◌≡◌, length, refl, arith, length-set, rules}
use Rattle.base.proofs.Arrays.{fill_on, filled, unmapped}
use Rattle.queue.specs.Columns.{no_entry}
use Rattle.queue.specs.declared.QueueEntry.{QueueEntry}
use Rattle.queue.proofs.Queue.players.Goals as goal

pub loop-i-preserved : goal.loop-i-preserved
loop-i-preserved c =
    let es = c.args.self.entries in
    let w : length es ≡ 64 = search (unmapped, rules) in
    let l = c.loop-i in
    (simp length-set l.invariant.0, fill_on (λ (e : QueueEntry). e.player) es l.ids l.i no_entry (omega arith) (omega arith) l.invariant.1 refl)

pub returns : goal.returns
returns c =
    let es = c.args.self.entries in
    let w : length es ≡ 64 = search (unmapped, rules) in
    let l = c.loop-i in
    let e : l.i ≡ 64 = omega arith in
    filled (λ (e : QueueEntry). e.player) es l.ids 64 w l.invariant.0 (rw e at l.invariant.1)
