-- Kinds and weights read side by side, one objective a turn.
use Prim.Native.Nat.{ℕ, ◌+◌, ◌≤◌, ◌<◌}
use mathlib.Core.Path.{◌≡◌, sym, ◌∙◌}
use mathlib.Core.List.{List, ◌∷◌, ◌++◌, append-nil}
use native.Mathlib.Numerals.{add-one}
use lib.Ieee.{Float, nan}
use lib.ListN.{length, take, drop, get_or, set, drop_of_length-le}
use lib.Seq.{drop-cons, append_snoc, take_all}
use Rattle.base.proofs.Arrays.{push}
use Rattle.objective.specs.declared.soft.SoftObjective.{SoftObjective}
use Rattle.capi.specs.Scores.{soft_of, softs_of}

module _ (ks : List ℕ) (ws : List Float) (out : List SoftObjective) (i : ℕ)
    (inv : take i out ++ softs_of (drop i ks) (drop i ws) ≡ softs_of ks ws) where
  -- one more objective is written behind those before it
  pub softs_on : i < length ks → i < length ws → i < length out → {o : SoftObjective} → o ≡ soft_of (get_or ks i 0) (get_or ws i nan) →
      take (i + 1) (set out i o) ++ softs_of (drop (i + 1) ks) (drop (i + 1) ws) ≡ softs_of ks ws
  unfolding softs_of
  softs_on hk hw ho {o} e =
      let k : softs_of (drop i ks) (drop i ws) ≡ soft_of (get_or ks i 0) (get_or ws i nan) ∷ softs_of (drop (i + 1) ks) (drop (i + 1) ws) =
      rw (drop-cons ks i 0 hk, drop-cons ws i nan hw, add-one i) in
      rw (push out i o ho, append_snoc (take i out) o (softs_of (drop (i + 1) ks) (drop (i + 1) ws)), e, ← k) inv

  -- all of them are written
  pub softs_end : length ks ≤ i → length out ≤ i → out ≡ softs_of ks ws
  unfolding softs_of
  softs_end hk ho = sym (take_all i out ho) ∙ sym (append-nil (take i out)) ∙ (rw (drop_of_length-le ks hk) at inv)
