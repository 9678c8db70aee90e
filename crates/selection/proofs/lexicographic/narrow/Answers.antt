-- What is kept so far, narrowed by the rest of the objectives, is what all of them leave.
use lib.Dec.{eqb}
use mathlib.Core.Path.{◌≡◌, ◌∙◌}
use mathlib.Core.Bool.{false}
use native.Mathlib.Omega.{arith}
use borrow.Author.Tests.{eq-eqb, ne_eqb}
use lib.ListN.{length}
use Rattle.base.proofs.Arrays.{unmapped}
use Rattle.roster.specs.Roster.{of_ratings}
use Rattle.selection.specs.Steps.{shortlist_of}
use Rattle.selection.proofs.Laws.{listed_length, narrow_stops, narrow_on, narrow_end}
use borrow.Author.Rules.{rules}
use Rattle.selection.proofs.lexicographic.narrow.Goals as goal

pub returns-then-kept-eq1 : goal.returns-then-kept-eq1
returns-then-kept-eq1 c =
    let s = c.args in
    let l = c.loop-i in
    let k = c.near_best-kept.result in
    let w : length k.candidates ≡ 64 = search (unmapped, rules) in
    let e = c.near_best-kept.ensures in
    let n : length (shortlist_of k) ≡ k.len = listed_length k.candidates k.len (omega arith) in
    (narrow_stops (of_ratings s.ids.now s.ratings.now) s.objectives s.count l.i (omega arith) (shortlist_of l.kept) l.invariant.1 _ (omega arith) e.0 (eq-eqb _ 1 (n ∙ c.if-kept-eq1.true)), e.1)

pub loop-i-preserved : goal.loop-i-preserved
loop-i-preserved c =
    let s = c.args in
    let l = c.loop-i in
    let k = c.near_best-kept.result in
    let w : length k.candidates ≡ 64 = search (unmapped, rules) in
    let e = c.near_best-kept.ensures in
    let n : length (shortlist_of k) ≡ k.len = listed_length k.candidates k.len (omega arith) in
    let t : eqb (length (shortlist_of k)) 1 ≡ false = rw n (ne_eqb k.len 1 c.if-kept-eq1.false) in
    (e.1, narrow_on (of_ratings s.ids.now s.ratings.now) s.objectives s.count l.i (omega arith) (shortlist_of l.kept) l.invariant.1 _ (omega arith) e.0 t)

pub returns : goal.returns
returns c =
    let s = c.args in
    let l = c.loop-i in
    (narrow_end (of_ratings s.ids.now s.ratings.now) s.objectives s.count l.i (omega arith) (shortlist_of l.kept) l.invariant.1 (omega arith) (omega arith), l.invariant.0)
