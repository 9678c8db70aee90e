-- The limits of the requirements from i on.
use Prim.Native.Nat.{ℕ}
use mathlib.Core.Path.{◌≡◌, refl}
use native.Mathlib.Omega.{arith}
use lib.ListN.{length}
use Rattle.base.proofs.Arrays.{unmapped, held_fits}
use Rattle.constraint.specs.declared.roles.RoleRequirement.{RoleRequirement}
use Rattle.constraint.specs.Constraints.{requirements_of}
use Rattle.choice.specs.Reading.{capped, most_of}
use Rattle.choice.proofs.Packing.{packed_start, packed_fit, packed_room, packed_on, packed_end, capped_low, most_low, bounds_made}
use borrow.Author.Rules.{rules}
use Rattle.choice.proofs.marks.bounds_of.Goals as goal

-- the least of a requirement, as a digit
abbrev least_of : RoleRequirement → ℕ
least_of q = capped q.least

-- the most of a requirement, as a digit
abbrev at_most : RoleRequirement → ℕ
at_most q = most_of q.most

pub loop-i-init : goal.loop-i-init
loop-i-init c =
    let s = c.args in
    let h = c.held-asked in
    let k = held_fits s.required.count s.required.requirements h.ensures in
    (packed_start least_of s.required.requirements h.result k, packed_start at_most s.required.requirements h.result k)

pub overflow_mul-least : goal.overflow_mul-least
overflow_mul-least c =
    let s = c.args in
    let h = c.held-asked in
    let l = c.loop-i in
    let w : length s.required.requirements ≡ 8 = search (unmapped, rules) in
    let k = held_fits s.required.count s.required.requirements h.ensures in
    omega (arith, packed_fit least_of s.required.requirements h.result l.i k (omega arith) l.invariant.0 (λ q. capped_low q.least) (omega arith) (omega arith))

pub overflow_add-least : goal.overflow_add-least
overflow_add-least c =
    let s = c.args in
    let h = c.held-asked in
    let l = c.loop-i in
    let w : length s.required.requirements ≡ 8 = search (unmapped, rules) in
    let k = held_fits s.required.count s.required.requirements h.ensures in
    omega (arith, packed_room least_of s.required.requirements h.result l.i k (omega arith) l.invariant.0 (λ q. capped_low q.least) (omega arith) _ (omega arith) c.cap.ensures)

pub overflow_mul-most : goal.overflow_mul-most
overflow_mul-most c =
    let s = c.args in
    let h = c.held-asked in
    let l = c.loop-i in
    let w : length s.required.requirements ≡ 8 = search (unmapped, rules) in
    let k = held_fits s.required.count s.required.requirements h.ensures in
    omega (arith, packed_fit at_most s.required.requirements h.result l.i k (omega arith) l.invariant.1 (λ q. most_low q.most) (omega arith) (omega arith))

pub overflow_add-most : goal.overflow_add-most
overflow_add-most c =
    let s = c.args in
    let h = c.held-asked in
    let l = c.loop-i in
    let w : length s.required.requirements ≡ 8 = search (unmapped, rules) in
    let k = held_fits s.required.count s.required.requirements h.ensures in
    omega (arith, packed_room at_most s.required.requirements h.result l.i k (omega arith) l.invariant.1 (λ q. most_low q.most) (omega arith) _ (omega arith) c.cap_of.ensures)

pub loop-i-preserved : goal.loop-i-preserved
loop-i-preserved c =
    let s = c.args in
    let h = c.held-asked in
    let l = c.loop-i in
    let k = held_fits s.required.count s.required.requirements h.ensures in
    (packed_on least_of s.required.requirements h.result l.i k (omega arith) l.invariant.0 _ (omega arith) c.cap.ensures refl, packed_on at_most s.required.requirements h.result l.i k (omega arith) l.invariant.1 _ (omega arith) c.cap_of.ensures refl)

pub returns : goal.returns
returns c =
    let s = c.args in
    let h = c.held-asked in
    let l = c.loop-i in
    let k = held_fits s.required.count s.required.requirements h.ensures in
    bounds_made (requirements_of s.required) h.ensures (packed_end least_of s.required.requirements h.result l.i k (omega arith) l.invariant.0 s.required.count h.ensures (omega arith)) (packed_end at_most s.required.requirements h.result l.i k (omega arith) l.invariant.1 s.required.count h.ensures (omega arith))
