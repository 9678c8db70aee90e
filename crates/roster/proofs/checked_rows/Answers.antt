-- A refusal leaves the sheet, and behind a check that passes nobody has two rows.
use Rattle.std.proofs.Common.{◌≡◌, refl, sym, ap, ◌∙◌, rules}
use Rattle.base.specs.Refusals.{outcome_of}
use Rattle.std.specs.Prelude.{Ok, Err}
use Rattle.base.specs.declared.Refusal.TheVariants.{BadRoster}
use Rattle.base.proofs.Cases.{cond_true, cond_false}
use Rattle.roster.proofs.Laws.{refused_by_length, ids_decide, ids_few, found_refused, found_passed}
use Rattle.roster.proofs.checked_rows.Goals as goal

pub returns-in_err-check_lengths : goal.returns-in_err-check_lengths
returns-in_err-check_lengths c =
    let a = c.args in
    let k = c.check_lengths in
    let x = c.in_err-check_lengths.field-0.0 in
    let r : c.from_residual.result ≡ Err x = search rules in
    let o = refused_by_length a.ids.now a.lengths.now k.result k.ensures (c.in_err-check_lengths.was) in
    record { result_value = ap outcome_of (r ∙ sym (c.in_err-check_lengths.was)) ∙ o; rows_after = found_refused a.ids.now a.players.now a.rows.now k.result (c.in_err-check_lengths.was) o }

pub write_rows-requires : goal.write_rows-requires
write_rows-requires c = c.differ_by_order.ensures c.if-differ_by_order.true

pub returns-then-differ_by_order : goal.returns-then-differ_by_order
returns-then-differ_by_order c =
    let a = c.args in
    let k = c.check_lengths in
    let o = ids_decide a.ids.now a.lengths.now k.result k.ensures c.in_ok-check_lengths.was (c.differ_by_order.ensures c.if-differ_by_order.true) in
    record { result_value = o; rows_after = c.write_rows.ensures ∙ found_passed a.ids.now a.players.now a.rows.now (Ok tt) refl o }

pub find-requires : goal.find-requires
find-requires c =
    let a = c.args in
    let k = c.check_lengths in
    ids_few a.ids.now a.lengths.now k.result k.ensures c.in_ok-check_lengths.was

pub returns-then-not-find : goal.returns-then-not-find
returns-then-not-find c =
    let a = c.args in
    let k = c.check_lengths in
    let f = c.find in
    let t = c.if-not-find.true in
    let o = ids_decide a.ids.now a.lengths.now k.result k.ensures c.in_ok-check_lengths.was (sym f.ensures.value ∙ t) in
    record { result_value = o; rows_after = f.ensures.rows_after ∙ cond_false f.result _ _ t ∙ found_refused a.ids.now a.players.now a.rows.now (Err BadRoster) refl o }

pub returns : goal.returns
returns c =
    let a = c.args in
    let k = c.check_lengths in
    let f = c.find in
    let t = c.if-not-find.false in
    let o = ids_decide a.ids.now a.lengths.now k.result k.ensures c.in_ok-check_lengths.was (sym f.ensures.value ∙ t) in
    record { result_value = o; rows_after = f.ensures.rows_after ∙ cond_true f.result _ _ t ∙ found_passed a.ids.now a.players.now a.rows.now (Ok tt) refl o }
