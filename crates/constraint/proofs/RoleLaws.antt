-- The laws of role counts, of a requirement, and of a team's report.
use Prim.Native.Nat.{ℕ, suc, ◌+◌, ◌≤◌, ◌<◌}
use Rattle.std.specs.Prelude.{None}
use mathlib.Core.Path.{◌≡◌, refl, sym, ap, ◌∙◌}
use mathlib.Core.Bool.{Bool, true, false}
use mathlib.Core.List.{List, [], ◌∷◌, ◌++◌}
use native.Mathlib.Numerals.{add-one}
use native.Mathlib.Omega.{arith}
use borrow.Author.Tests.{lt-ltb, le-ltb, ltb-true, ltb-false, le-leb, lt-leb}
use lib.Dec.{ltb}
use lib.ListN.{length, drop, get_or, drop_of_length-le, length-append}
use lib.Seq.{drop-cons}
use Rattle.base.specs.Lists.{seek, every, keep}
use Rattle.base.proofs.Loops.{keep_append}
use Rattle.base.proofs.Cases.{cases, never}
use Rattle.base.proofs.Members.{length_keep}
use Rattle.roster.specs.Roster.{Roster}
use Rattle.constraint.specs.Constraints.{has_role, role_count, within_maximum, requirement_holds}
use Rattle.constraint.specs.Refusing.{report_from}
use Rattle.constraint.specs.declared.roles.RoleRequirement.{RoleRequirement}
use Rattle.constraint.specs.declared.teams.Validity.{Validity}
use Rattle.constraint.specs.declared.teams.Validity.TheVariants.{Valid, TooFew, TooMany}

-- ---- role counts

-- a requirement for role 0 counts nobody
pub nobody_of_role_0 : (r : Roster) (ps : List ℕ) → role_count r 0 ps ≡ 0
unfolding keep
nobody_of_role_0 r [] = refl
nobody_of_role_0 r (p ∷ ps) = nobody_of_role_0 r ps

-- two rows of players count together as many as each on its own
pub role_count_append : (r : Roster) (role : ℕ) (ps qs : List ℕ) → role_count r role (ps ++ qs) ≡ role_count r role ps + role_count r role qs
role_count_append r role ps qs =
    ap length (keep_append (has_role r role) ps qs) ∙ length-append (keep (has_role r role) ps) (keep (has_role r role) qs)

-- no more count than there are players
pub role_count_fits : (r : Roster) (role : ℕ) (ps : List ℕ) → role_count r role ps ≤ length ps
role_count_fits r role ps = length_keep (has_role r role) ps

-- ---- one requirement

-- what a requirement's array gives past its end
abbrev pub no_requirement : RoleRequirement
no_requirement = record { role = 0; least = 0; most = None }

module _ (r : Roster) (ps : List ℕ) (q : RoleRequirement) where
  -- fewer than the minimum: it fails
  pub requirement_few : role_count r q.role ps < q.least → requirement_holds r ps q ≡ false
  requirement_few h = rw (lt-leb q.least (role_count r q.role ps) h)

  -- at least the minimum: the maximum decides
  pub requirement_enough : q.least ≤ role_count r q.role ps → requirement_holds r ps q ≡ within_maximum (role_count r q.role ps) q.most
  requirement_enough h = rw (le-leb q.least (role_count r q.role ps) h)

module _ (r : Roster) (ps qs : List ℕ) (q : RoleRequirement) {x y : ℕ} (e : x ≡ role_count r q.role ps) (f : y ≡ role_count r q.role qs) where
  -- two counts added are the count of both teams together
  together : x + y ≡ role_count r q.role (ps ++ qs)
  together = rw (e, f) (sym (role_count_append r q.role ps qs))

  -- both together are fewer than the minimum
  pub both_few : x + y < q.least → false ≡ requirement_holds r (ps ++ qs) q
  both_few h = sym (requirement_few r (ps ++ qs) q (omega (arith, together)))

  -- both together are enough: the maximum decides
  pub both_enough : q.least ≤ x + y → {w : Bool} → w ≡ within_maximum (x + y) q.most → w ≡ requirement_holds r (ps ++ qs) q
  both_enough h k = k ∙ ap (λ (n : ℕ). within_maximum n q.most) together ∙ sym (requirement_enough r (ps ++ qs) q (omega (arith, together)))

-- ---- a team's report

module _ (r : Roster) (team : List ℕ) where
  module _ (qs : List RoleRequirement) (i : ℕ) {w : Validity} (inv : report_from r team i (drop i qs) ≡ w) where
    module _ (h : i < length qs) where
      -- the requirement at i asks for more than there are
      pub report_few : role_count r (get_or qs i no_requirement).role team < (get_or qs i no_requirement).least → TooFew i ≡ w
      unfolding report_from
      report_few e = sym (rw (drop-cons qs i no_requirement h, lt-ltb (role_count r (get_or qs i no_requirement).role team) (get_or qs i no_requirement).least e)) ∙ inv

      module _ (e : (get_or qs i no_requirement).least ≤ role_count r (get_or qs i no_requirement).role team) where
        -- there are enough, and more than the requirement at i allows
        pub report_many : within_maximum (role_count r (get_or qs i no_requirement).role team) (get_or qs i no_requirement).most ≡ false → TooMany i ≡ w
        unfolding report_from
        report_many f = sym (rw (drop-cons qs i no_requirement h, le-ltb (role_count r (get_or qs i no_requirement).role team) (get_or qs i no_requirement).least e, f)) ∙ inv

        -- the requirement at i holds: the rest reports
        pub report_on : within_maximum (role_count r (get_or qs i no_requirement).role team) (get_or qs i no_requirement).most ≡ true → report_from r team (i + 1) (drop (i + 1) qs) ≡ w
        unfolding report_from
        report_on f = sym (rw (drop-cons qs i no_requirement h, le-ltb (role_count r (get_or qs i no_requirement).role team) (get_or qs i no_requirement).least e, f, add-one i)) ∙ inv

    -- no requirement is left
    pub report_end : length qs ≤ i → Valid ≡ w
    unfolding report_from
    report_end h = sym (rw (drop_of_length-le qs h)) ∙ inv

  -- a report says valid only where every requirement holds of the team
  pub valid_holds : (i : ℕ) (qs : List RoleRequirement) → report_from r team i qs ≡ Valid → every (requirement_holds r team) qs ≡ true
  unfolding report_from seek
  valid_holds i [] h = refl
  valid_holds i (q ∷ qs) h =
      cases (ltb (role_count r q.role team) q.least)
      (λ t. never (let e : TooFew i ≡ Valid = rw t at h in cc))
      (λ f.
      cases (within_maximum (role_count r q.role team) q.most)
      (λ w.
      rw (requirement_enough r team q (ltb-false (role_count r q.role team) q.least f), w)
      (valid_holds (suc i) qs (rw (f, w) at h)))
      (λ w. never (let e : TooMany i ≡ Valid = rw (f, w) at h in cc)))

  -- where every requirement holds of the team, the report says valid
  pub holds_valid : (i : ℕ) (qs : List RoleRequirement) → every (requirement_holds r team) qs ≡ true → report_from r team i qs ≡ Valid
  unfolding report_from seek
  holds_valid i [] h = refl
  holds_valid i (q ∷ qs) h =
      cases (ltb (role_count r q.role team) q.least)
      (λ t.
      never
      (let e : false ≡ true = rw (requirement_few r team q (ltb-true (role_count r q.role team) q.least t)) at h in
      cc))
      (λ f.
      let enough = requirement_enough r team q (ltb-false (role_count r q.role team) q.least f) in
      cases (within_maximum (role_count r q.role team) q.most)
      (λ w. rw (f, w) (holds_valid (suc i) qs (rw (enough, w) at h)))
      (λ w. never (let e : false ≡ true = rw (enough, w) at h in cc)))
