-- Tests of every element and of some element: of one more, of two tests, and what follows of each.
use Prim.Native.Nat.{ℕ}
use mathlib.Core.Path.{◌≡◌, refl, sym, ap, ◌∙◌}
use mathlib.Core.Bool.{Bool, true, false, not, cond, ◌&&◌, ◌||◌, and-false, or-true}
use mathlib.Core.Logic.{◌⊎◌, inl, inr}
use mathlib.Core.List.Memᴰ
use mathlib.Core.List.{List, [], ◌∷◌, ◌++◌, Memᴰ}
use borrow.Author.Tests.{eqb-true}
use lib.Dec.{eqb}
use Rattle.base.specs.Lists.{seek, any, every, keep, member, All}
use Rattle.base.proofs.Cases.{cases, never}
use Rattle.base.proofs.Loops.{every_append, any_append}
use Rattle.base.proofs.Members.{every_fails, member_head, member_tail}

-- ---- two tests

-- tests that hold together are the same
pub same_truth : (a b : Bool) → (a ≡ true → b ≡ true) → (b ≡ true → a ≡ true) → a ≡ b
same_truth true b f g = sym (f refl)
same_truth false true f g = g refl
same_truth false false f g = refl

-- a test holds where another does
pub so_holds : (a b : Bool) → (a ≡ true → b ≡ true) → (not a || b) ≡ true
so_holds true b f = f refl
so_holds false b f = refl

-- where one test holds if another does, and that one holds, it holds
pub holds_so : (a b : Bool) → (not a || b) ≡ true → a ≡ true → b ≡ true
holds_so true b h e = h
holds_so false b h e = never cc

-- ---- lists

-- where tests answer alike, they hold alike of everyone
pub every_alike : {A : Type 0} (f g : A → Bool) → ((x : A) → f x ≡ g x) → (xs : List A) → every f xs ≡ every g xs
every_alike {A} f g e xs = ap (λ (p : A → Bool). every p xs) (λ j x. e x j)

module _ {A : Type 0} where
  -- one more, behind the others, passes too
  pub every_more : (f : A → Bool) (xs : List A) (x : A) → every f (xs ++ (x ∷ [])) ≡ (every f xs && f x)
  unfolding seek
  every_more f xs x = every_append f xs (x ∷ []) ∙ ap (λ (b : Bool). every f xs && b) (cases (f x) (λ t. rw t) (λ k. rw k))

  -- one more, behind the others, may be one that passes
  pub any_more : (f : A → Bool) (xs : List A) (x : A) → any f (xs ++ (x ∷ [])) ≡ (any f xs || f x)
  unfolding seek
  any_more f xs x = any_append f xs (x ∷ []) ∙ ap (λ (b : Bool). any f xs || b) (cases (f x) (λ t. rw t) (λ k. rw k))

  -- a test that everything passes
  pub every_passes : (f : A → Bool) → ((x : A) → f x ≡ true) → (xs : List A) → every f xs ≡ true
  unfolding seek
  every_passes f h [] = refl
  every_passes f h (x ∷ xs) = rw (h x) (every_passes f h xs)

  -- a test that nothing passes
  pub any_never : (xs : List A) → any (λ x. false) xs ≡ false
  unfolding seek
  any_never [] = refl
  any_never (x ∷ xs) = any_never xs

  -- no element passes where every element fails
  pub none_passes : (f : A → Bool) (xs : List A) → not (any f xs) ≡ every (λ x. not (f x)) xs
  unfolding seek
  none_passes f [] = refl
  none_passes f (x ∷ xs) = cases (f x) (λ t. rw t) (λ k. rw k (none_passes f xs))

  -- everyone passes both tests where everyone passes each
  pub every_both : (f g : A → Bool) (xs : List A) → every (λ x. f x && g x) xs ≡ (every f xs && every g xs)
  unfolding seek
  every_both f g [] = refl
  every_both f g (x ∷ xs) =
      cases (f x)
      (λ t. cases (g x) (λ u. rw (t, u) (every_both f g xs)) (λ v. rw (t, v) (sym (and-false (every f xs)))))
      (λ k. rw k)

  -- some element passes one of two tests where some passes the first or some passes the second
  pub any_either : (f g : A → Bool) (xs : List A) → any (λ x. f x || g x) xs ≡ (any f xs || any g xs)
  unfolding seek
  any_either f g [] = refl
  any_either f g (x ∷ xs) =
      cases (f x) (λ t. rw t) (λ k. cases (g x) (λ u. rw (k, u) (sym (or-true (any f xs)))) (λ v. rw (k, v) (any_either f g xs)))

-- ---- what holds of a member

module _ (f : ℕ → Bool) where
  -- what holds of everyone holds of one of them
  pub every_of : (n : ℕ) (xs : List ℕ) → every f xs ≡ true → member n xs ≡ true → f n ≡ true
  every_of n xs h k = cases (f n) (λ t. t) (λ e. never (let z : false ≡ true = sym (every_fails f n xs k e) ∙ h in cc))

  -- what holds of one of them holds of some
  pub any_of : (n : ℕ) (xs : List ℕ) → member n xs ≡ true → f n ≡ true → any f xs ≡ true
  unfolding seek
  any_of n [] h e = never cc
  any_of n (x ∷ xs) h e =
      cases (f x) (λ t. rw t)
      (λ k.
      cases (eqb x n) (λ t. never (let z : x ≡ n = eqb-true x n t in let y : f x ≡ true = ap f z ∙ e in cc))
      (λ u. rw k (any_of n xs (rw u at h) e)))

  -- what follows of each of them follows of everyone
  pub every_so : (g : ℕ → Bool) (xs : List ℕ) → ((x : ℕ) → member x xs ≡ true → f x ≡ true → g x ≡ true) → every f xs ≡ true → every g xs ≡ true
  unfolding seek
  every_so g xs so h = go xs (λ n k. k)
    where
      go : (ys : List ℕ) → ((n : ℕ) → member n ys ≡ true → member n xs ≡ true) → every g ys ≡ true
      go [] w = refl
      go (y ∷ ys) w =
          let k = w y (member_head y ys) in
          rw (so y k (every_of y xs h k)) (go ys (λ n j. w n (member_tail n y ys j)))

  -- what follows of one that passes, whichever it is, follows where some passes
  pub any_so : (g : ℕ → Bool) (xs : List ℕ) {b : Bool} → ((x : ℕ) → f x ≡ true → g x ≡ true → b ≡ true) → any f xs ≡ true → every g xs ≡ true → b ≡ true
  unfolding seek
  any_so g [] so h k = never cc
  any_so g (x ∷ xs) so h k =
      cases (g x)
      (λ u. cases (f x) (λ t. so x t u) (λ e. any_so g xs so (rw e at h) (rw u at k)))
      (λ v. never (let z : false ≡ true = rw v at k in cc))

-- ---- what holds of an element

module _ {A : Type 0} (f : A → Bool) where
  -- what holds of everyone holds of each element
  pub every_in : {x : A} (xs : List A) → every f xs ≡ true → Memᴰ x xs → f x ≡ true
  unfolding seek
  every_in [] h m = absurd (Memᴰ.not-nil m)
  every_in {x} (y ∷ xs) h m =
      cases (f y) (λ t. go (Memᴰ.cases_cons m) t (every_in xs (rw t at h))) (λ k. never (let z : false ≡ true = rw k at h in cc))
    where
      go : (x ≡ y) ⊎ Memᴰ x xs → f y ≡ true → (Memᴰ x xs → f x ≡ true) → f x ≡ true
      go (inl e) t rest = ap f e ∙ t
      go (inr n) t rest = rest n

  -- what holds of each element holds of everyone
  pub every_from : (xs : List A) → ((x : A) → Memᴰ x xs → f x ≡ true) → every f xs ≡ true
  unfolding seek
  every_from [] h = refl
  every_from (x ∷ xs) h = rw (h x (Memᴰ.head refl)) (every_from xs (λ y m. h y (Memᴰ.tail m)))

  -- what holds of an element holds of some
  pub any_in : {x : A} (xs : List A) → Memᴰ x xs → f x ≡ true → any f xs ≡ true
  unfolding seek
  any_in [] m e = absurd (Memᴰ.not-nil m)
  any_in {x} (y ∷ xs) m e = go (Memᴰ.cases_cons m) (λ n. any_in xs n e)
    where
      go : (x ≡ y) ⊎ Memᴰ x xs → (Memᴰ x xs → any f xs ≡ true) → cond (f y) true (any f xs) ≡ true
      go (inl i) rest = rw (sym (ap f i) ∙ e)
      go (inr n) rest = cases (f y) (λ t. rw t) (λ k. rw k (rest n))

  -- what holds of some holds of an element
  pub any_from : (xs : List A) → any f xs ≡ true → (x : A) × (Memᴰ x xs × (f x ≡ true))
  unfolding seek
  any_from [] h = never cc
  any_from (x ∷ xs) h = go (f x) refl h (any_from xs)
    where
      go : (b : Bool) → f x ≡ b → cond b true (any f xs) ≡ true → (any f xs ≡ true → (y : A) × (Memᴰ y xs × (f y ≡ true))) → (y : A) × (Memᴰ y (x ∷ xs) × (f y ≡ true))
      go true e h rest = (x, (Memᴰ.head refl, e))
      go false e h rest = ((rest h).0, (Memᴰ.tail (rest h).1.0, (rest h).1.1))

-- ---- those that are kept

module _ {A : Type 0} (p : A → Bool) where
  -- who is in the list and passes is kept
  pub kept_in : (x : A) (xs : List A) → Memᴰ x xs → p x ≡ true → Memᴰ x (keep p xs)
  unfolding keep
  kept_in x [] m e = absurd (Memᴰ.not-nil m)
  kept_in x (y ∷ xs) m e = go (p y) refl (Memᴰ.cases_cons m) (λ n. kept_in x xs n e)
    where
      go : (b : Bool) → p y ≡ b → (x ≡ y) ⊎ Memᴰ x xs → (Memᴰ x xs → Memᴰ x (keep p xs)) → Memᴰ x (cond b (y ∷ keep p xs) (keep p xs))
      go true q (inl i) f = Memᴰ.head i
      go true q (inr n) f = Memᴰ.tail (f n)
      go false q (inl i) f = never cc
      go false q (inr n) f = f n

  -- who is kept is in the list and passes
  pub kept_out : (x : A) (xs : List A) → Memᴰ x (keep p xs) → Memᴰ x xs × (p x ≡ true)
  unfolding keep
  kept_out x [] m = absurd (Memᴰ.not-nil m)
  kept_out x (y ∷ xs) m = go (p y) refl m (kept_out x xs)
    where
      go : (b : Bool) → p y ≡ b → Memᴰ x (cond b (y ∷ keep p xs) (keep p xs)) → (Memᴰ x (keep p xs) → Memᴰ x xs × (p x ≡ true)) → Memᴰ x (y ∷ xs) × (p x ≡ true)
      go false q n f = (Memᴰ.tail (f n).0, (f n).1)
      go true q n f = place (Memᴰ.cases_cons n)
        where
          place : (x ≡ y) ⊎ Memᴰ x (keep p xs) → Memᴰ x (y ∷ xs) × (p x ≡ true)
          place (inl i) = (Memᴰ.head i, cc)
          place (inr k) = (Memᴰ.tail (f k).0, (f k).1)

-- who passes the second test wherever they pass the first may be kept by the first alone
pub keep_keep : {A : Type 0} (p q : A → Bool) (xs : List A) → All (λ x. p x ≡ true → q x ≡ true) xs → keep p (keep q xs) ≡ keep p xs
unfolding keep
keep_keep p q [] a = refl
keep_keep {A} p q (x ∷ xs) a =
    cases (p x)
    (λ t. rw (a.0 t, t) (ap (λ (r : List A). x ∷ r) (keep_keep p q xs a.1)))
    (λ f. cases (q x) (λ u. rw (u, f) (keep_keep p q xs a.1)) (λ v. rw (v, f) (keep_keep p q xs a.1)))
