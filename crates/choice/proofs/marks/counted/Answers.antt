-- The counts of the requirements from i on.
use Prim.Native.Nat.{ℕ, ◌≤◌}
use mathlib.Core.Path.{◌≡◌, refl, sym}
use mathlib.Core.Bool.{not, cond, ◌&&◌}
use native.Mathlib.Omega.{arith}
use lib.Dec.{eqb}
use lib.ListN.{length, take}
use Rattle.base.proofs.Arrays.{unmapped, held_fits}
use Rattle.constraint.specs.declared.roles.RoleRequirement.{RoleRequirement}
use Rattle.choice.proofs.MarkLaws.{digit_small}
use Rattle.choice.proofs.Packing.{packed_start, packed_fit, packed_room, packed_on, packed_end, packed_ones}
use borrow.Author.Rules.{rules}
use Rattle.choice.proofs.marks.counted.Goals as goal

-- 1 where the role counts for the requirement
abbrev ones : ℕ → RoleRequirement → ℕ
ones role q = cond (not (eqb q.role 0) && eqb role q.role) 1 0

-- it is at most 1
ones_low : (role : ℕ) (q : RoleRequirement) → ones role q ≤ 1
ones_low role q = omega (arith, digit_small (not (eqb q.role 0) && eqb role q.role))

-- so it is a digit
ones_digit : (role : ℕ) (q : RoleRequirement) → ones role q ≤ 255
ones_digit role q = omega (arith, ones_low role q)

pub loop-i-init : goal.loop-i-init
loop-i-init c =
    let s = c.args in
    let h = c.held-i in
    packed_start (ones s.role) s.required.requirements h.result (held_fits s.required.count s.required.requirements h.ensures)

pub overflow_mul-out : goal.overflow_mul-out
overflow_mul-out c =
    let s = c.args in
    let h = c.held-i in
    let l = c.loop-i in
    let w : length s.required.requirements ≡ 8 = search (unmapped, rules) in
    let k = held_fits s.required.count s.required.requirements h.ensures in
    omega (arith, packed_fit (ones s.role) s.required.requirements h.result l.i k (omega arith) l.invariant (ones_digit s.role) (omega arith) (omega arith))

pub overflow_add-out : goal.overflow_add-out
overflow_add-out c =
    let s = c.args in
    let h = c.held-i in
    let l = c.loop-i in
    let w : length s.required.requirements ≡ 8 = search (unmapped, rules) in
    let k = held_fits s.required.count s.required.requirements h.ensures in
    omega (arith, packed_room (ones s.role) s.required.requirements h.result l.i k (omega arith) l.invariant (ones_digit s.role) (omega arith) _ (omega arith) c.one_if.ensures)

pub loop-i-preserved : goal.loop-i-preserved
loop-i-preserved c =
    let s = c.args in
    let h = c.held-i in
    let l = c.loop-i in
    let k = held_fits s.required.count s.required.requirements h.ensures in
    packed_on (ones s.role) s.required.requirements h.result l.i k (omega arith) l.invariant _ (omega arith) c.one_if.ensures refl

pub returns : goal.returns
returns c =
    let s = c.args in
    let h = c.held-i in
    let l = c.loop-i in
    let w : length s.required.requirements ≡ 8 = search (unmapped, rules) in
    let k = held_fits s.required.count s.required.requirements h.ensures in
    let e = packed_end (ones s.role) s.required.requirements h.result l.i k (omega arith) l.invariant s.required.count h.ensures (omega arith) in
    (e, rw (sym e) at (packed_ones (ones s.role) (ones_low s.role) (take s.required.count s.required.requirements) (omega (arith, h.ensures, k))))
