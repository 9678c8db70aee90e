-- One law for each way in which the call ends.
use borrow.Author.Rules.{rules}
use mathlib.Core.Path.{◌≡◌, refl}
use Prim.Native.Nat.{◌≤◌}
use lib.ListN.{length, take}
use Rattle.base.proofs.Arrays.{unmapped}
use Rattle.hall.specs.Hall.{withdraw}
use Rattle.hall.proofs.Turns.{turned_over, turned_seen, turned_full, turned_fresh, within, withdrawn, noted_as_lem}
use Rattle.capi.proofs.halls.withdraw_in.Goals as goal

pub returns-then-is_over : goal.returns-then-is_over
returns-then-is_over c =
    let s = c.args in
    let h = c.args.out.now in
    turned_over h.bookings h.waiting h.keys h.notes h.noted h.sizes h.served s.key (withdraw s.player) c.is_over.ensures c.if-is_over.true

pub offset_bounds-out-at : goal.offset_bounds-out-at
offset_bounds-out-at c =
    let s = c.args in
    let h = c.args.out.now in
    let u = within h.waiting h.noted h.sizes h.served c.is_over.ensures c.if-is_over.false in
    let few : h.waiting ≤ 64 = u.0 in
    let fits : h.noted ≤ 1024 = u.1 in
    search rules

pub bounds-out-at : goal.bounds-out-at
bounds-out-at c =
    let s = c.args in
    let h = c.args.out.now in
    let u = within h.waiting h.noted h.sizes h.served c.is_over.ensures c.if-is_over.false in
    let few : h.waiting ≤ 64 = u.0 in
    let fits : h.noted ≤ 1024 = u.1 in
    search rules

pub returns-then-at-noted : goal.returns-then-at-noted
returns-then-at-noted c =
    let places : length c.args.out.now.notes ≡ 1024 = search (unmapped, rules) in
    let s = c.args in
    let h = c.args.out.now in
    let u = within h.waiting h.noted h.sizes h.served c.is_over.ensures c.if-is_over.false in
    let few : h.waiting ≤ 64 = u.0 in
    let fits : h.noted ≤ 1024 = u.1 in
    let long : length h.keys ≡ 1024 = search rules in
    let wide : length h.notes ≡ 1024 = places in
    turned_seen h.bookings h.waiting h.keys h.notes h.noted h.sizes h.served s.key (withdraw s.player) c.is_over.ensures c.if-is_over.false long wide fits _ c.place_of-at.ensures c.if-at-noted.true c.heard_withdrawal.result c.heard_withdrawal.ensures

pub returns-then-noted-ge1024 : goal.returns-then-noted-ge1024
returns-then-noted-ge1024 c =
    let places : length c.args.out.now.notes ≡ 1024 = search (unmapped, rules) in
    let s = c.args in
    let h = c.args.out.now in
    let u = within h.waiting h.noted h.sizes h.served c.is_over.ensures c.if-is_over.false in
    let few : h.waiting ≤ 64 = u.0 in
    let fits : h.noted ≤ 1024 = u.1 in
    let long : length h.keys ≡ 1024 = search rules in
    let wide : length h.notes ≡ 1024 = places in
    turned_full h.bookings h.waiting h.keys h.notes h.noted h.sizes h.served s.key (withdraw s.player) c.is_over.ensures c.if-is_over.false long wide fits _ c.place_of-at.ensures c.if-at-noted.false c.if-noted-ge1024.true

pub returns : goal.returns
returns c =
    let places : length c.args.out.now.notes ≡ 1024 = search (unmapped, rules) in
    let s = c.args in
    let h = c.args.out.now in
    let u = within h.waiting h.noted h.sizes h.served c.is_over.ensures c.if-is_over.false in
    let few : h.waiting ≤ 64 = u.0 in
    let fits : h.noted ≤ 1024 = u.1 in
    let long : length h.keys ≡ 1024 = search rules in
    let wide : length h.notes ≡ 1024 = places in
    turned_fresh h.bookings h.waiting h.keys h.notes h.noted h.sizes h.served s.key (withdraw s.player) c.is_over.ensures c.if-is_over.false long wide fits _ c.place_of-at.ensures c.if-at-noted.false c.if-noted-ge1024.false _
    (withdrawn s.player (take h.waiting h.bookings) _ c.withdrawal_answer-answer.result c.waits.ensures c.withdrawal_answer-answer.ensures) _
    c.without_first-staying.ensures _
    (noted_as_lem s.key (withdraw s.player) _ c.withdrawal_answer-answer.result c.withdrawal_note.ensures refl) c.withdrawal_answer-answer.result refl
