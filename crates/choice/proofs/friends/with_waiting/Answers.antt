-- The sets as they are, or with the places of each guest's friends, pooled over the guest's entries.
use Prim.Native.Nat.{ℕ}
use mathlib.Core.Path.{◌≡◌, ap, ◌∙◌}
use mathlib.Core.Bool.{true, false, not, ◌&&◌}
use mathlib.Core.List.{List, map}
use borrow.Author.Rules.{rules}
use lib.Bits.{bit_or, or_zero_r}
use lib.Dec.{eqb}
use lib.ListN.{length, take, get_or, length-map}
use lib.Seq.{get_or-take, length-take-le}
use native.Mathlib.Omega.{arith}
use Rattle.base.proofs.Arrays.{unmapped, take_map}
use Rattle.queue.specs.declared.QueueEntry.{QueueEntry}
use Rattle.choice.specs.Reading.{marks, pooled}
use Rattle.choice.proofs.Invited.{shares, friends_pooled}
use Rattle.choice.proofs.MarkLaws.{marks_never}
use Rattle.choice.proofs.Standing.{pairs_read}
use Rattle.choice.proofs.friends.with_waiting.Goals as goal

pub returns-then-not-brought : goal.returns-then-not-brought
returns-then-not-brought c =
    let a = c.args in
    let e : a.brought ≡ false = c.if-not-brought.true in
    λ i h. rw (e, marks_never (take a.queue.len a.queue.entries), or_zero_r (get_or a.sets i 0))

pub returns : goal.returns
returns c =
    let a = c.args in
    let n = c.args.queue.len in
    let es = take n a.queue.entries in
    let e : a.brought ≡ true = c.if-not-brought.false in
    let queued : take n a.queued.now ≡ map (λ (d : QueueEntry). d.player) es = ap (take n) c.requires.1 ∙ take_map (λ (d : QueueEntry). d.player) n a.queue.entries in
    let parties : take n c.parties_in-parties.result ≡ map (λ (d : QueueEntry). d.party) es = ap (take n) c.parties_in-parties.ensures ∙ take_map (λ (d : QueueEntry). d.party) n a.queue.entries in
    let w : length a.queue.entries ≡ 64 = search (unmapped, rules) in
    let long : length a.queued.now ≡ 64 = ap length c.requires.1 ∙ length-map a.queue.entries _ ∙ w in
    let wide : length c.parties_in-parties.result ≡ 64 = ap length c.parties_in-parties.ensures ∙ length-map a.queue.entries _ ∙ w in
    let held : length (take n a.queued.now) ≡ n = length-take-le n a.queued.now (omega (arith, c.requires.0, long)) in
    let columns : length (take n c.parties_in-parties.result) ≡ n = length-take-le n c.parties_in-parties.result (omega (arith, c.requires.0, wide)) in
    let friends : take n c.partners_of-friends.result ≡ map (λ d. marks (shares d) es) es = (rw columns at c.partners_of-friends.ensures) ∙ pairs_read (λ p q. not (eqb p 0) && eqb q p) (λ (d : QueueEntry). d.party) es parties in
    λ i h.
    let p = get_or a.queued.now i 0 in
    (rw (get_or-take n a.queued.now i 0 h) at (c.pool_all.ensures i (omega (arith, held, h))))
    ∙ ap (bit_or (get_or a.sets i 0)) (ap (λ (ns : List ℕ). pooled p ns (take n c.partners_of-friends.result)) queued ∙ ap (pooled p (map (λ (d : QueueEntry). d.player) es)) friends ∙ friends_pooled es p)
    ∙ rw e
