-- The two answers of a policy, by whether the constraints hold; and what a policy without constraints comes to.
use mathlib.Core.Path.{◌≡◌, refl}
use mathlib.Core.Bool.{Bool, true, false, cond}
use mathlib.Core.List.{List}
use lib.Ieee.{Float, inf, binary64, div, neg, round, of_bits}
use Rattle.base.specs.Refusals.{gives}
use Rattle.roster.specs.Roster.{Roster}
use Rattle.matchmaker.specs.Quality.{MatchState}
use Rattle.objective.specs.Soft.{soft_score_of}
use Rattle.objective.specs.declared.soft.SoftObjective.{SoftObjective}
use Rattle.constraint.specs.Constraints.{constraints_hold}
use Rattle.constraint.specs.declared.Constraints.{Constraints}
use Rattle.policy.specs.Policy.{policy_score_of}

-- -1.0 / 0.0 is minus infinity
minus_infinity : div binary64 (neg (of_bits binary64 0x3ff0_0000_0000_0000)) (of_bits binary64 0) ≡ inf true
unfolding div neg of_bits round
minus_infinity = refl

-- a violation scores minus infinity
pub violated : (score : Float) {holds : Bool} → holds ≡ false →
    gives (div binary64 (neg (of_bits binary64 0x3ff0_0000_0000_0000)) (of_bits binary64 0)) ≡ gives (cond holds score (inf true))
violated score e = rw (e, minus_infinity)

-- else the weighted sum counts
pub satisfied : {x score : Float} {holds : Bool} → holds ≡ true → x ≡ score → gives x ≡ gives (cond holds score (inf true))
satisfied e h = rw (e, h)

-- where the constraints hold a policy scores as its objectives do
pub policy_holds : (r : Roster) (c : Constraints) (objectives : List SoftObjective) (m : MatchState) → constraints_hold r c m ≡ true →
    policy_score_of r c objectives m ≡ soft_score_of r m objectives
policy_holds r c objectives m e = rw e
