-- A greedy pick is the foremost of the unused entries, and no other entry is.
use Prim.Native.Nat.{ℕ, ◌≤◌, ◌<◌}
use mathlib.Core.Path.{◌≡◌, refl, sym, ap, ◌∙◌, subst}
use mathlib.Core.Bool.{true, false}
use mathlib.Core.List.{List, [], ◌∷◌, ◌++◌, foldl, append_assoc, append-nil, head-eq_of_cons-eq, tail-eq_of_cons-eq}
use Rattle.std.specs.Prelude.{Option, None, Some}
use native.Mathlib.Omega.{arith}
use lib.Ieee.{Float, inf, lt, eq}
use lib.Seq.{append_snoc}
use Rattle.base.specs.Lists.{All}
use Rattle.base.proofs.Cases.{cases, never}
use Rattle.base.proofs.All.{all_append, all_so, all_middle}
use Rattle.base.proofs.Order.{lt_irrefl, lt_trans}
use Rattle.base.proofs.Equal.{level_eq, eq_sym, eq_trans, eq_lt, eq_not_lt, lt_number}
use Rattle.queue.specs.declared.QueueEntry.{QueueEntry}
use Rattle.queue.specs.Queue.{without_all}
use Rattle.greedy.specs.Greedy.{distance, goes_before, closer, nearest}
use Rattle.greedy.specs.LongerWait.{Foremost, Picked}
use Rattle.greedy.proofs.Ties.{before_elim, after_far, after_tied}

-- ---- the pick

module _ (reference : Float) where
  -- the distance of an entry
  abbrev far : QueueEntry → Float
  far x = distance reference x.rating

  -- where x is below b, what is not below b is neither below x nor level with it
  not_below : (b : Float) (x y : QueueEntry) → lt (far x) b ≡ true → lt (far y) b ≡ false → lt (far y) (far x) ≡ false
  not_below b x y h k = cases (lt (far y) (far x)) (λ t. let z = lt_trans (far y) (far x) b t h in never cc) (λ f. f)

  not_level : {A : Type 0} (b : Float) (x y : QueueEntry) → lt (far x) b ≡ true → lt (far y) b ≡ false → eq (far y) (far x) ≡ true → A
  not_level b x y h k e = let z = eq_lt (far y) (far x) b e h in never cc

  -- an entry that is nearer than what was kept so far takes its place
  nearer_kept : (b : Float) (seen : List QueueEntry) (x : QueueEntry) → All (λ y. lt (far y) b ≡ false) seen → lt (far x) b ≡ true → lt (far x) (inf false) ≡ true → Foremost reference (seen ++ (x ∷ [])) x
  nearer_kept b seen x a h f =
      record {
        before = seen;
        behind = [];
        split = refl;
        smallest = all_append (λ y. lt (far y) (far x) ≡ false) seen (x ∷ []) (all_so _ _ (λ y k. not_below b x y h k) seen a) (lt_irrefl (far x), tt);
        longest = all_append (λ y. eq (far y) (far x) ≡ true → x.joined ≤ y.joined) seen (x ∷ []) (all_so _ _ (λ y k. not_level b x y h k) seen a) (λ e. omega arith, tt);
        first = all_so _ _ (λ y k. not_level b x y h k) seen a;
        finite = f;
      }

  -- so does one that ties with it and joined earlier
  tied_kept : (seen : List QueueEntry) (e x : QueueEntry) → Foremost reference seen e → eq (far x) (far e) ≡ true → x.joined < e.joined → Foremost reference (seen ++ (x ∷ [])) x
  tied_kept seen e x k h l =
      let later = all_so (λ y. eq (far y) (far e) ≡ true → e.joined ≤ y.joined) (λ y. eq (far y) (far x) ≡ true → x.joined < y.joined)
      (λ y g t. omega (arith, g (eq_trans (far y) (far x) (far e) t h))) seen k.longest in
      record {
        before = seen;
        behind = [];
        split = refl;
        smallest = all_append (λ y. lt (far y) (far x) ≡ false) seen (x ∷ []) (all_so _ _ (λ y g. eq_not_lt (far y) (far e) (far x) g h) seen k.smallest) (lt_irrefl (far x), tt);
        longest = all_append (λ y. eq (far y) (far x) ≡ true → x.joined ≤ y.joined) seen (x ∷ []) (all_so _ _ (λ y g t. omega (arith, g t)) seen later) (λ t. omega arith, tt);
        first = later;
        finite = eq_lt (far x) (far e) (inf false) h k.finite;
      }

  -- one entry more is seen
  kept_on : (seen : List QueueEntry) (o : Option QueueEntry) (x : QueueEntry) → Picked reference seen o → Picked reference (seen ++ (x ∷ [])) (closer reference o x)
  unfolding closer
  kept_on seen None x k =
      cases (lt (far x) (inf false)) (λ t. rw t (nearer_kept (inf false) seen x k t t)) (λ f. rw f (all_append (λ y. lt (far y) (inf false) ≡ false) seen (x ∷ []) k (f, tt)))
  kept_on seen (Some e) x k =
      cases (goes_before (far x) x.joined (far e) e.joined)
      (λ t.
      rw t
      (before_elim (far x) x.joined (far e) e.joined t
      (λ l. nearer_kept (far e) seen x k.smallest l (lt_trans (far x) (far e) (inf false) l k.finite))
      (λ h l. tied_kept seen e x k h l)))
      (λ f.
      rw f
      (record {
        before = k.before;
        behind = k.behind ++ (x ∷ []);
        split = ap (λ (l : List QueueEntry). l ++ (x ∷ [])) k.split ∙ append_assoc k.before (e ∷ k.behind) (x ∷ []);
        smallest = all_append (λ y. lt (far y) (far e) ≡ false) seen (x ∷ []) k.smallest (after_far (far x) x.joined (far e) e.joined f, tt);
        longest = all_append (λ y. eq (far y) (far e) ≡ true → e.joined ≤ y.joined) seen (x ∷ []) k.longest (after_tied (far x) x.joined (far e) e.joined f, tt);
        first = k.first;
        finite = k.finite;
      }))

  -- all that are left are seen
  kept_all : (rest seen : List QueueEntry) (o : Option QueueEntry) → Picked reference seen o → Picked reference (seen ++ rest) (foldl (closer reference) o rest)
  kept_all [] seen o k = rw append-nil k
  kept_all (x ∷ rest) seen o k =
      subst (λ (l : List QueueEntry). Picked reference l (foldl (closer reference) (closer reference o x) rest)) (append_snoc seen x rest)
      (kept_all rest (seen ++ (x ∷ [])) (closer reference o x) (kept_on seen o x k))

-- so of the unused entries the foremost is picked
pub nearest_picked : (reference : Float) (used : List ℕ) (queue : List QueueEntry) → Picked reference (without_all used queue) (nearest reference used queue)
nearest_picked reference used queue = kept_all reference (without_all used queue) [] None tt

pub nearest_is : (reference : Float) (used : List ℕ) (queue : List QueueEntry) (e : QueueEntry) → nearest reference used queue ≡ Some e → Foremost reference (without_all used queue) e
nearest_is reference used queue e h = subst (Picked reference (without_all used queue)) h (nearest_picked reference used queue)

-- ---- no other entry is foremost

module _ (reference : Float) (e f : QueueEntry) (level : eq (far reference e) (far reference f) ≡ true) (same : e.joined ≡ f.joined) where
  abbrev Later : QueueEntry → QueueEntry → Type 0
  Later y x = eq (far reference x) (far reference y) ≡ true → y.joined < x.joined

  -- both stand where nobody before them ties: at the same place
  one_place : (b c x y : List QueueEntry) → b ++ (e ∷ x) ≡ c ++ (f ∷ y) → All (Later e) b → All (Later f) c → (b ≡ c) × (e ≡ f)
  one_place [] [] x y h p q = (refl, head-eq_of_cons-eq h)
  one_place [] (z ∷ c) x y h p q =
      let k : e ≡ z = head-eq_of_cons-eq h in
      let l : f.joined < e.joined = rw k (q.0 (subst (λ (w : QueueEntry). eq (far reference w) (far reference f) ≡ true) k level)) in
      absurd (omega (arith, l, same))
  one_place (z ∷ b) [] x y h p q =
      let k : z ≡ f = head-eq_of_cons-eq h in
      let l : e.joined < f.joined = subst (λ (w : QueueEntry). e.joined < w.joined) k (p.0 (subst (λ (w : QueueEntry). eq (far reference w) (far reference e) ≡ true) (sym k) (eq_sym (far reference e) (far reference f) level))) in
      absurd (omega (arith, l, same))
  one_place (z ∷ b) (w ∷ c) x y h p q =
      let k : z ≡ w = head-eq_of_cons-eq h in
      let r = one_place b c x y (tail-eq_of_cons-eq h) p.1 q.1 in
      ((λ j. k j ∷ r.0 j), r.1)

-- what holds of all holds of the pick
at_pick : (P : QueueEntry → Type 0) (reference : Float) (es : List QueueEntry) (e : QueueEntry) → Foremost reference es e → All P es → P e
at_pick P reference es e p a = all_middle P p.before e p.behind (subst (All P) p.split a)

-- so there is one such entry, at one place
pub foremost_one : (reference : Float) (es : List QueueEntry) (e f : QueueEntry) (p : Foremost reference es e) (q : Foremost reference es f) → (p.before ≡ q.before) × (e ≡ f)
foremost_one reference es e f p q =
    let d = far reference in
    let level : eq (d e) (d f) ≡ true = level_eq (d e) (d f)
    (record {
      left = lt_number (d e) (inf false) p.finite;
      right = lt_number (d f) (inf false) q.finite;
      under = at_pick (λ x. lt (d x) (d f) ≡ false) reference es e p q.smallest;
      over = at_pick (λ x. lt (d x) (d e) ≡ false) reference es f q p.smallest;
    }) in
    let a : e.joined ≤ f.joined = at_pick (λ x. eq (d x) (d e) ≡ true → e.joined ≤ x.joined) reference es f q p.longest (eq_sym (d e) (d f) level) in
    let b : f.joined ≤ e.joined = at_pick (λ x. eq (d x) (d f) ≡ true → f.joined ≤ x.joined) reference es e p q.longest level in
    one_place reference e f level (omega (arith, a, b)) p.before q.before p.behind q.behind (sym p.split ∙ q.split) p.first q.first
