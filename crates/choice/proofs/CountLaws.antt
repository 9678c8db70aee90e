-- Counts as the digits of a number: their sums, and whether they are within limits.
use Prim.Native.Nat.{ℕ, ◌+◌, ◌<◌}
use mathlib.Core.Path.{◌≡◌, refl, sym, ◌∙◌}
use mathlib.Core.Bool.{Bool, true, false, not, cond, ◌&&◌}
use mathlib.Core.List.{List, [], ◌∷◌, map}
use native.Mathlib.Omega.{arith}
use borrow.Author.Tests.{ltb-true, le-leb, lt-leb}
use lib.Arith.{digits_div, digits_mod}
use lib.Dec.{ltb, leb}
use lib.ListN.{length}
use Rattle.std.specs.Prelude.{Option, None, Some}
use Rattle.base.specs.Lists.{seek, every}
use Rattle.base.proofs.Cases.{cases}
use Rattle.base.proofs.Every.{every_alike}
use Rattle.roster.specs.Roster.{Roster}
use Rattle.constraint.specs.declared.roles.RoleRequirement.{RoleRequirement}
use Rattle.constraint.specs.Constraints.{role_count, within_maximum, requirement_holds}
use Rattle.constraint.proofs.RoleLaws.{role_count_fits}
use Rattle.choice.specs.Reading.{packed, capped, most_of, bounds_of, in_limits}
use Rattle.choice.proofs.Packing.{capped_low, most_low}

-- the sum of two numbers of counts has the sums of the counts
pub packed_add : {A : Type 0} (f g : A → ℕ) (qs : List A) → packed (map f qs) + packed (map g qs) ≡ packed (map (λ q. f q + g q) qs)
unfolding packed
packed_add f g [] = refl
packed_add f g (q ∷ qs) = omega (arith, packed_add f g qs)

-- both, as a test of every element goes on
and_rest : (a b : Bool) → (a && b) ≡ cond (not a) false b
and_rest true b = refl
and_rest false b = refl

-- counts that are digits are within limits that are digits where each is
pub limits_packed : {A : Type 0} (f l m : A → ℕ) → ((q : A) → f q < 256) → ((q : A) → l q < 256) → ((q : A) → m q < 256) → (qs : List A)
    → in_limits (length qs) (packed (map f qs)) (packed (map l qs)) (packed (map m qs)) ≡ every (λ q. leb (l q) (f q) && leb (f q) (m q)) qs
unfolding packed in_limits seek
limits_packed f l m a b c [] = refl
limits_packed f l m a b c (q ∷ qs) =
    rw (digits_mod (packed (map f qs)) (a q), digits_mod (packed (map l qs)) (b q), digits_mod (packed (map m qs)) (c q), digits_div (packed (map f qs)) (a q), digits_div (packed (map l qs)) (b q), digits_div (packed (map m qs)) (c q), limits_packed f l m a b c qs)
    (and_rest (leb (l q) (f q) && leb (f q) (m q)) (every (λ q. leb (l q) (f q) && leb (f q) (m q)) qs))

-- ---- limits

-- a count below 255 is compared with the limit as a digit as with the limit
capped_least : (n k : ℕ) → k < 255 → leb (capped n) k ≡ leb n k
capped_least n k h =
    cases (ltb 255 n) (λ t. let g = ltb-true 255 n t in rw t (lt-leb 255 k h ∙ sym (lt-leb n k (omega arith)))) (λ f. rw f)

capped_most : (x : Option ℕ) (k : ℕ) → k < 255 → leb k (most_of x) ≡ within_maximum k x
capped_most None k h = le-leb k 255 (omega arith)
capped_most (Some n) k h =
    cases (ltb 255 n) (λ t. let g = ltb-true 255 n t in rw t (le-leb k 255 (omega arith) ∙ sym (le-leb k n (omega arith)))) (λ f. rw f)

-- the counts of fewer than 255 players are within the limits where every requirement holds
pub limits_hold : (r : Roster) (qs : List RoleRequirement) (ps : List ℕ) → length ps < 255
    → in_limits (length qs) (packed (map (λ (q : RoleRequirement). role_count r q.role ps) qs)) (bounds_of qs).least (bounds_of qs).most ≡ every (requirement_holds r ps) qs
limits_hold r qs ps h =
    let few : (q : RoleRequirement) → role_count r q.role ps < 255 = λ q. omega (arith, role_count_fits r q.role ps) in
    limits_packed (λ (q : RoleRequirement). role_count r q.role ps) (λ (q : RoleRequirement). capped q.least) (λ (q : RoleRequirement). most_of q.most)
    (λ q. omega (arith, few q)) (λ q. omega (arith, capped_low q.least)) (λ q. omega (arith, most_low q.most)) qs
    ∙ every_alike (λ (q : RoleRequirement). leb (capped q.least) (role_count r q.role ps) && leb (role_count r q.role ps) (most_of q.most)) (requirement_holds r ps)
    (λ q. rw (capped_least q.least (role_count r q.role ps) (few q), capped_most q.most (role_count r q.role ps) (few q))) qs
