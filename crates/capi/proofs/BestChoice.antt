-- The best choice in numbers: one law for each answer.
use Prim.Native.Nat.{ℕ}
use mathlib.Core.Path.{◌≡◌, sym, subst, refl, ap, ◌∙◌}
use mathlib.Core.Bool.{true, false}
use mathlib.Core.List.{[]}
use Rattle.std.specs.Prelude.{Option, None, Some, option_map, Result, Ok, Err}
use Rattle.base.specs.Refusals.{Outcome, refused, gives, refusal_number}
use Rattle.base.specs.declared.Refusal.{Refusal}
use Rattle.matchmaker.specs.Quality.{match_of}
use Rattle.matchmaker.specs.declared.ProposedMatch.{ProposedMatch}
use Rattle.seating.specs.Seating.{lineup}
use Rattle.choice.specs.Full.{Selection, choice_of}
use Rattle.choice.specs.declared.Choice.{Choice}
use Rattle.capi.specs.FullRounds.{ChoiceNumbers}
use Rattle.capi.specs.declared.rounds.Chosen.{Chosen}

module _ (r : Chosen) (m : match_of r.teams ≡ lineup [] []) (f : r.found ≡ false) where
  -- nobody, for a refusal
  pub none_chosen : (n : ℕ) → r.tried ≡ 0 → r.refusal ≡ n → ChoiceNumbers (refused n) r
  none_chosen n t e = record { teams = m; tried = t; found = f; refusal = e }

  -- nobody, since none passes
  none_passed : (n : ℕ) → r.tried ≡ n → r.refusal ≡ 0 → ChoiceNumbers (gives (record { best = None; tried = n })) r
  none_passed n t e = record { teams = m; tried = t; found = f; refusal = e }

-- what a choice says of its match
abbrev told : Option ProposedMatch → ℕ → Outcome Selection
told best n = gives (record { best = option_map match_of best; tried = n })

module _ (k : Result Choice Refusal) where
  -- a choice that is refused
  pub choice_refused : {x : Refusal} (r : Chosen) → k ≡ Err x → match_of r.teams ≡ lineup [] [] → r.tried ≡ 0 → r.found ≡ false → r.refusal ≡ refusal_number x → ChoiceNumbers (choice_of k) r
  choice_refused {x} r e m t f n = subst (λ (o : Outcome Selection). ChoiceNumbers o r) (ap choice_of (sym e)) (none_chosen r m f (refusal_number x) t n)

  module _ {c : Choice} (e : k ≡ Ok c) where
    -- none that passes
    pub choice_nothing : (r : Chosen) → c.best ≡ None → match_of r.teams ≡ lineup [] [] → r.tried ≡ c.tried → r.found ≡ false → r.refusal ≡ 0 → ChoiceNumbers (choice_of k) r
    choice_nothing r b m t f n = subst (λ (o : Outcome Selection). ChoiceNumbers o r) (ap (λ x. told x c.tried) (sym b) ∙ ap choice_of (sym e)) (none_passed r m f c.tried t n)

    -- a match that is chosen
    pub choice_found : {t : ProposedMatch} → c.best ≡ Some t → ChoiceNumbers (choice_of k) (record { teams = t; tried = c.tried; found = true; refusal = 0 })
    choice_found {t} b =
        subst (λ (o : Outcome Selection). ChoiceNumbers o (record { teams = t; tried = c.tried; found = true; refusal = 0 })) (ap (λ x. told x c.tried) (sym b) ∙ ap choice_of (sym e))
        (record { teams = refl; tried = refl; found = refl; refusal = refl })
