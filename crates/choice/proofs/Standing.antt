-- Columns that were read of each place stand for the roster and the constraints that they were read from.
use Prim.Native.Nat.{ℕ, ◌≤◌, ◌<◌}
use mathlib.Core.Path.{◌≡◌, refl, sym, ap, ◌∙◌}
use mathlib.Core.Bool.{Bool, false}
use mathlib.Core.List.{List, [], ◌∷◌, map}
use Rattle.std.specs.Prelude.{is_some, unwrap_or}
use native.Mathlib.Omega.{arith}
use lib.Dec.{eqb}
use lib.Ieee.{nan}
use lib.Bits.{bit_or}
use lib.ListN.{length, take, get_or}
use lib.Seq.{get_or-take, length-take-le}
use Rattle.base.specs.Floats as Floats
use Rattle.base.specs.Refusals.{gives}
use Rattle.base.proofs.Arrays.{column_at}
use Rattle.queue.specs.declared.QueueEntry.{QueueEntry}
use Rattle.roster.specs.Roster.{Roster, rules_check, rating_of}
use Rattle.constraint.specs.declared.Constraints.{Constraints}
use Rattle.choice.specs.Reading.{marks, packed, players_of, admitted, wants, invites, expects, bars, required, counts_for, bounds_of, Columns, StandFor}
use Rattle.choice.specs.declared.tally.Bounds.{Bounds}
use Rattle.choice.proofs.MarkLaws.{marks_map, marks_or}

-- a test of what two elements have, by a column of what each has, is a test of the two
pub pairs_read : {A B : Type 0} (test : B → B → Bool) (g : A → B) (xs : List A) {column : List B} → column ≡ map g xs → map (λ b. marks (test b) column) column ≡ map (λ a. marks (λ x. test (g a) (g x)) xs) xs
pairs_read {A} {B} test g xs e = rw e (go xs)
  where
    go : (ys : List A) → map (λ b. marks (test b) (map g xs)) (map g ys) ≡ map (λ a. marks (λ x. test (g a) (g x)) xs) ys
    go [] = refl
    go (y ∷ ys) =
        ap (λ (n : ℕ). n ∷ map (λ b. marks (test b) (map g xs)) (map g ys)) (marks_map (test (g y)) g xs)
        ∙ ap (λ (ns : List ℕ). marks (λ x. test (g y) (g x)) xs ∷ ns) (go ys)

module _ (r : Roster) (c : Constraints) (on : Bool) (n : ℕ) (es : List QueueEntry) (x : Columns) (fits : n ≤ length x.queued) (many : n ≡ length es) (queued : take n x.queued ≡ players_of es) where
  abbrev queue : List ℕ
  queue = take n x.queued

  -- what a column has at a place is what it was filled with
  told : {B : Type 0} (f : ℕ → B) (z : B) (column : List B) → take n column ≡ map f queue → (i : ℕ) → i < n → get_or column i z ≡ f (get_or x.queued i 0)
  told f z column e i h = column_at f 0 z column queue n i e (sym (length-take-le n x.queued fits)) h ∙ ap f (get_or-take n x.queued i 0 h)

  -- what was filled by a test of all who wait is filled by a test of the entries' players
  told_all : {B : Type 0} (f : List ℕ → ℕ → B) (z : B) (column : List B) → take n column ≡ map (f queue) queue → (i : ℕ) → i < n → get_or column i z ≡ f (players_of es) (get_or x.queued i 0)
  told_all f z column e i h = told (f queue) z column e i h ∙ ap (λ (ps : List ℕ). f ps (get_or x.queued i 0)) queued

  -- whom a place's player expects: by the roster's parties, and as friends who wait
  told_expected : (partners : List ℕ) → take n partners ≡ map (λ p. marks (wants r c p) queue) queue
      → ((i : ℕ) → i < n → get_or x.expected i 0 ≡ bit_or (get_or partners i 0) (marks (invites on es (get_or x.queued i 0)) es))
      → (i : ℕ) → i < n → get_or x.expected i 0 ≡ marks (expects r c on es (get_or x.queued i 0)) es
  told_expected partners e f i h =
      let p = get_or x.queued i 0 in
      let g : get_or partners i 0 ≡ marks (λ (e : QueueEntry). wants r c p e.player) es = told_all (λ ps p. marks (wants r c p) ps) 0 partners e i h ∙ marks_map (wants r c p) (λ (e : QueueEntry). e.player) es in
      f i h ∙ ap (λ (k : ℕ). bit_or k (marks (invites on es p) es)) g ∙ marks_or (λ e. wants r c p e.player) (invites on es p) es

  pub stand : {b : Bounds} (partners : List ℕ) → rules_check r ≡ gives tt → b ≡ bounds_of (required c)
      → take n x.rows ≡ map (λ p. is_some (rating_of r p)) queue → take n x.rated ≡ map (λ p. unwrap_or (rating_of r p) Floats.zero) queue → take n x.admits ≡ map (admitted r c queue) queue
      → take n x.counts ≡ map (λ p. packed (map (counts_for r p) (required c))) queue → take n x.same ≡ map (λ p. marks (λ q. eqb q p) queue) queue → take n partners ≡ map (λ p. marks (wants r c p) queue) queue
      → ((i : ℕ) → i < n → get_or x.expected i 0 ≡ bit_or (get_or partners i 0) (marks (invites on es (get_or x.queued i 0)) es))
      → take n x.foes ≡ map (λ p. marks (bars r c p) queue) queue → StandFor r c on es x b
  stand partners checked bounds rows rated admits counts same wanted expected foes =
      record {
        checked = checked;
        bounds = bounds;
        queued = ap (λ (k : ℕ). take k x.queued) (sym many) ∙ queued;
        says = λ i l.
            let h : i < n = omega (arith, many) in
            record {
              row = told (λ p. is_some (rating_of r p)) false x.rows rows i h;
              rating = told (λ p. unwrap_or (rating_of r p) Floats.zero) nan x.rated rated i h;
              admits = told_all (admitted r c) false x.admits admits i h;
              counts = told (λ p. packed (map (counts_for r p) (required c))) 0 x.counts counts i h;
              same = told_all (λ ps p. marks (λ q. eqb q p) ps) 0 x.same same i h;
              expected = told_expected partners wanted expected i h;
              foes = told_all (λ ps p. marks (bars r c p) ps) 0 x.foes foes i h;
            };
      }
