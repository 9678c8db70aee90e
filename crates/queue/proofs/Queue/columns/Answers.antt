-- Two arrays filled: what is written are the players and the joined times of the first entries.
use Rattle.std.proofs.Common.{◌≡◌, length, refl, arith, length-set, rules}
use Rattle.base.proofs.Arrays.{fill_on, filled, unmapped}
use Rattle.queue.specs.Columns.{no_entry}
use Rattle.queue.specs.declared.QueueEntry.{QueueEntry}
use Rattle.queue.proofs.Queue.columns.Goals as goal

pub loop-k-preserved : goal.loop-k-preserved
loop-k-preserved c =
    let es = c.args.self.entries in
    let w : length es ≡ 64 = search (unmapped, rules) in
    let l = c.loop-k in
    let v = l.invariant in (
      simp length-set v.0,
      simp length-set v.1,
      fill_on (λ (e : QueueEntry). e.player) es l.columns.players l.k no_entry (omega arith) (omega arith) v.2 refl,
      fill_on (λ (e : QueueEntry). e.joined) es l.columns.joined l.k no_entry (omega arith) (omega arith) v.3 refl,
    )

pub returns : goal.returns
returns c =
    let es = c.args.self.entries in
    let w : length es ≡ 64 = search (unmapped, rules) in
    let l = c.loop-k in
    let v = l.invariant in
    let e : l.k ≡ 64 = omega arith in
    let who = filled (λ (e : QueueEntry). e.player) es l.columns.players 64 w v.0 (rw e at v.2) in
    let since = filled (λ (e : QueueEntry). e.joined) es l.columns.joined 64 w v.1 (rw e at v.3) in
    λ j. record { players = who j; joined = since j }
