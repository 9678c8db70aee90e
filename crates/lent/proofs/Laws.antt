-- The walk over a lent list gives what the rule of the waiting time says.
use Prim.Native.Nat.{ℕ, ◌≤◌}
use mathlib.Core.Path.{◌≡◌, refl, ap}
use mathlib.Core.List.{List, [], ◌∷◌, foldl}
use Rattle.std.specs.Prelude.{Option, None, Some}
use mathlib.Core.Bool.{cond}
use native.Mathlib.Omega.{arith}
use native.Mathlib.Nat.{le_refl}
use lib.Dec.{ltb}
use lib.ListN.{length, take}
use lib.Seq.{take_all}
use Rattle.base.specs.Lists.{seek, any}
use Rattle.base.specs.Refusals.{Outcome, refused, gives}
use Rattle.base.proofs.Cases.{cases}
use Rattle.queue.specs.Time.{time_over}
use Rattle.queue.specs.Queue.{QueueState, queue_of, is_of, joined_over, first_wait, wait_rule, holding}
use Rattle.queue.specs.declared.Queue.{Queue}
use Rattle.queue.specs.declared.QueueEntry.{QueueEntry}
use Rattle.queue.proofs.Laws.{stands}
use Rattle.lent.specs.Reading.{readable, before_reading, read}

-- a refusal stays
read_refused : (p now n : ℕ) (es : List QueueEntry) → foldl (read p now) (refused n) es ≡ refused n
read_refused p now n [] = refl
read_refused p now n (e ∷ es) = read_refused p now n es

-- behind a known wait only entries whose time is over count
read_known : (p now t : ℕ) (es : List QueueEntry) → foldl (read p now) (gives (Some t)) es ≡ cond (any joined_over es) (refused 4) (gives (Some t))
unfolding seek
read_known p now t [] = refl
read_known p now t (e ∷ es) = cases (joined_over e) (λ y. rw y (read_refused p now 4 es)) (λ f. rw f (read_known p now t es))

-- until then it is the first entry of the player that counts
read_unknown : (p now : ℕ) (es : List QueueEntry) → foldl (read p now) (gives None) es ≡ cond (any joined_over es) (refused 4) (gives (first_wait p now es))
unfolding seek
read_unknown p now [] = refl
read_unknown p now (e ∷ es) =
    cases (joined_over e) (λ y. rw y (read_refused p now 4 es))
    (λ f. cases (is_of p e) (λ y. rw (f, y) (read_known p now _ es)) (λ g. rw (f, g) (read_unknown p now es)))

-- no more are read than there are
pub readable_fits : (n m : ℕ) → m ≡ readable n → m ≤ n
readable_fits n m e = cases (ltb 64 n) (λ y. let k : m ≡ 0 = rw y at e in omega arith) (λ f. let k : m ≡ n = rw f at e in omega arith)

-- all that is read of a lent list is the rule's answer
pub read_whole : (p now : ℕ) (ys : List QueueEntry) (m : ℕ) (w : Outcome (Option ℕ)) → m ≡ readable (length ys) → w ≡ before_reading (length ys) now → foldl (read p now) w (take m ys) ≡ wait_rule (holding ys) p now
read_whole p now ys m w em ew =
    rw (em, ew)
    (cases (ltb 64 (length ys)) (λ y. rw y refl)
    (λ f. cases (time_over now) (λ y. rw (f, y) (read_refused p now 4 (take (length ys) ys))) (λ g. rw (f, g, take_all (length ys) ys (le_refl _)) (read_unknown p now ys))))

-- a queue of at most 64 waits alike by value and as a lent list of its entries
pub waits_alike : (q : Queue) (p now : ℕ) → length q.entries ≡ 64 → q.len ≤ 64 → wait_rule (queue_of q) p now ≡ wait_rule (holding (queue_of q).entries) p now
waits_alike q p now long few = ap (λ (s : QueueState). wait_rule s p now) (stands q.entries q.len (queue_of q).entries (omega arith) refl)
