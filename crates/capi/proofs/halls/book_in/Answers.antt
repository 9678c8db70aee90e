-- One law for each way in which the call ends.
use borrow.Author.Rules.{rules}
use native.Mathlib.Omega.{arith}
use mathlib.Core.Path.{◌≡◌, refl, sym, ap}
use Prim.Native.Nat.{◌≤◌, ◌<◌}
use lib.ListN.{length, take}
use lib.Seq.{length-take-le}
use borrow.Author.Tests.{ne_eqb}
use lib.Dec.{ltb}
use Rattle.base.proofs.Arrays.{unmapped}
use Rattle.base.proofs.Numbers.{number_accepts, number_refuses}
use Rattle.hall.specs.Hall.{book}
use Rattle.hall.proofs.Turns.{turned_over, turned_seen, turned_full, turned_fresh, within, booked, not_booked, accepted_room, noted_as_lem}
use Rattle.hall.proofs.WaitLaws.{stand, joined}
use Rattle.capi.proofs.halls.book_in.Goals as goal

pub returns-then-is_over : goal.returns-then-is_over
returns-then-is_over c =
    let s = c.args in
    let h = c.args.out.now in
    turned_over h.bookings h.waiting h.keys h.notes h.noted h.sizes h.served s.key (book s.booking) c.is_over.ensures c.if-is_over.true

pub offset_bounds-out-at : goal.offset_bounds-out-at
offset_bounds-out-at c =
    let s = c.args in
    let h = c.args.out.now in
    let u = within h.waiting h.noted h.sizes h.served c.is_over.ensures c.if-is_over.false in
    let few : h.waiting ≤ 64 = u.0 in
    let fits : h.noted ≤ 1024 = u.1 in
    search rules

pub bounds-out-at : goal.bounds-out-at
bounds-out-at c =
    let s = c.args in
    let h = c.args.out.now in
    let u = within h.waiting h.noted h.sizes h.served c.is_over.ensures c.if-is_over.false in
    let few : h.waiting ≤ 64 = u.0 in
    let fits : h.noted ≤ 1024 = u.1 in
    search rules

pub returns-then-at-n : goal.returns-then-at-n
returns-then-at-n c =
    let places : length c.args.out.now.notes ≡ 1024 = search (unmapped, rules) in
    let s = c.args in
    let h = c.args.out.now in
    let u = within h.waiting h.noted h.sizes h.served c.is_over.ensures c.if-is_over.false in
    let few : h.waiting ≤ 64 = u.0 in
    let fits : h.noted ≤ 1024 = u.1 in
    let long : length h.keys ≡ 1024 = search rules in
    let wide : length h.notes ≡ 1024 = places in
    turned_seen h.bookings h.waiting h.keys h.notes h.noted h.sizes h.served s.key (book s.booking) c.is_over.ensures c.if-is_over.false long wide fits _ c.place_of-at.ensures c.if-at-n.true c.heard_booking.result c.heard_booking.ensures

pub returns-then-n-ge1024 : goal.returns-then-n-ge1024
returns-then-n-ge1024 c =
    let places : length c.args.out.now.notes ≡ 1024 = search (unmapped, rules) in
    let s = c.args in
    let h = c.args.out.now in
    let u = within h.waiting h.noted h.sizes h.served c.is_over.ensures c.if-is_over.false in
    let few : h.waiting ≤ 64 = u.0 in
    let fits : h.noted ≤ 1024 = u.1 in
    let long : length h.keys ≡ 1024 = search rules in
    let wide : length h.notes ≡ 1024 = places in
    turned_full h.bookings h.waiting h.keys h.notes h.noted h.sizes h.served s.key (book s.booking) c.is_over.ensures c.if-is_over.false long wide fits _ c.place_of-at.ensures c.if-at-n.false c.if-n-ge1024.true

pub offset_bounds-out-k : goal.offset_bounds-out-k
offset_bounds-out-k c =
    let s = c.args in
    let h = c.args.out.now in
    let room : h.waiting < 64 = accepted_room s.booking _ h.waiting c.booking_answer-answer.result c.booking_answer-answer.ensures c.if-answer-eq0.true in
    search rules

pub bounds-out-k : goal.bounds-out-k
bounds-out-k c =
    let s = c.args in
    let h = c.args.out.now in
    let room : h.waiting < 64 = accepted_room s.booking _ h.waiting c.booking_answer-answer.result c.booking_answer-answer.ensures c.if-answer-eq0.true in
    search rules

pub overflow_add-out-then-answer-eq0 : goal.overflow_add-out-then-answer-eq0
overflow_add-out-then-answer-eq0 c =
    let s = c.args in
    let h = c.args.out.now in
    let room : h.waiting < 64 = accepted_room s.booking _ h.waiting c.booking_answer-answer.result c.booking_answer-answer.ensures c.if-answer-eq0.true in
    search rules

pub returns-then-answer-eq0 : goal.returns-then-answer-eq0
returns-then-answer-eq0 c =
    let places : length c.args.out.now.notes ≡ 1024 = search (unmapped, rules) in
    let s = c.args in
    let h = c.args.out.now in
    let u = within h.waiting h.noted h.sizes h.served c.is_over.ensures c.if-is_over.false in
    let few : h.waiting ≤ 64 = u.0 in
    let fits : h.noted ≤ 1024 = u.1 in
    let long : length h.keys ≡ 1024 = search rules in
    let wide : length h.notes ≡ 1024 = places in
    let all : length h.bookings ≡ 64 = search (unmapped, rules) in
    let room : h.waiting < 64 = accepted_room s.booking _ h.waiting c.booking_answer-answer.result c.booking_answer-answer.ensures c.if-answer-eq0.true in
    let many : length (take h.waiting h.bookings) ≡ h.waiting = length-take-le h.waiting h.bookings (omega arith) in
    turned_fresh h.bookings h.waiting h.keys h.notes h.noted h.sizes h.served s.key (book s.booking) c.is_over.ensures c.if-is_over.false long wide fits _ c.place_of-at.ensures c.if-at-n.false c.if-n-ge1024.false _
    (booked s.booking (take h.waiting h.bookings) _ _ c.booking_answer-answer.result c.waits-waits.ensures (ap (λ z. ltb z 64) (sym many)) c.booking_answer-answer.ensures c.if-answer-eq0.true) _
    (joined h.bookings h.waiting s.booking (omega arith)) _
    (noted_as_lem s.key (book s.booking) _ c.booking_answer-answer.result c.booking_note.ensures (number_accepts c.booking_answer-answer.result (tt {0}) c.if-answer-eq0.true)) 0 refl

pub returns : goal.returns
returns c =
    let places : length c.args.out.now.notes ≡ 1024 = search (unmapped, rules) in
    let s = c.args in
    let h = c.args.out.now in
    let u = within h.waiting h.noted h.sizes h.served c.is_over.ensures c.if-is_over.false in
    let few : h.waiting ≤ 64 = u.0 in
    let fits : h.noted ≤ 1024 = u.1 in
    let long : length h.keys ≡ 1024 = search rules in
    let wide : length h.notes ≡ 1024 = places in
    let all : length h.bookings ≡ 64 = search (unmapped, rules) in
    let many : length (take h.waiting h.bookings) ≡ h.waiting = length-take-le h.waiting h.bookings (omega arith) in
    turned_fresh h.bookings h.waiting h.keys h.notes h.noted h.sizes h.served s.key (book s.booking) c.is_over.ensures c.if-is_over.false long wide fits _ c.place_of-at.ensures c.if-at-n.false c.if-n-ge1024.false _
    (not_booked s.booking (take h.waiting h.bookings) _ _ c.booking_answer-answer.result c.waits-waits.ensures (ap (λ z. ltb z 64) (sym many)) c.booking_answer-answer.ensures (ne_eqb _ _ c.if-answer-eq0.false)) _
    (stand h.bookings h.waiting (take h.waiting h.bookings) (omega arith) refl) _
    (noted_as_lem s.key (book s.booking) _ c.booking_answer-answer.result c.booking_note.ensures (number_refuses c.booking_answer-answer.result (tt {0}) (ne_eqb _ _ c.if-answer-eq0.false))) c.booking_answer-answer.result (number_refuses c.booking_answer-answer.result (tt {0}) (ne_eqb _ _ c.if-answer-eq0.false))
