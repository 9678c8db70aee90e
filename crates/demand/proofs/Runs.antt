-- Demand 3 speaks of the functions: whatever they return, call by call, is what the list statement says.
use mathlib.Core.Path.{◌≡◌, refl, sym, ap, ◌∙◌}
use mathlib.Core.List.{List, ◌∷◌, ◌++◌}
use Rattle.seating.specs.declared.TeamComposition.{TeamComposition}
use Rattle.hall.specs.Hall.{HallState, Turn, empty}
use Rattle.demand.specs.Calls.{Call, Answer, answered, Step, rounded, step, after, answers}
use Rattle.demand.specs.Runs.{Met, keyed_met, round_met, no_kind_met, Run, ended, called, Told, Kept, KeptFrom}
use Rattle.demand.proofs.Resend.{after_append}
use Rattle.demand.proofs.Fair.{fair}
use Rattle.demand.proofs.Older.{older}
use Rattle.demand.proofs.Demand.{answers_append, demand3}

-- what a call that met its promise gives is its step
met_step : (h : HallState) (c : Call) (a : Answer) (k : HallState) → Met h c a k → ◌≡◌ {A = Step} (record { hall = k; answer = a }) (step h c)
unfolding step
met_step h c a k (keyed_met t e) = ap (λ (u : Turn). record { hall = u.hall; answer = answered u.answer }) e
met_step h c a k (round_met t e) = ap rounded e
met_step h c a k (no_kind_met t e) = ap rounded e

-- so the answers and the hall of a run are those that demand 3 speaks of
pub run_told : (h : HallState) (cs : List Call) (rs : List Answer) (l : HallState) → Run h cs rs l → Told h cs rs l
run_told h cs rs l ended = record { answered = refl; left = refl }
run_told h cs rs l (called {k = k} {c = c} {a = a} {cs = ds} {rs = ts} m r) =
    let e : ◌≡◌ {A = Step} (record { hall = k; answer = a }) (step h c) = met_step h c a k m in
    let p : k ≡ (step h c).hall = ap (λ (x : Step). x.hall) e in
    let q : a ≡ (step h c).answer = ap (λ (x : Step). x.answer) e in
    let i : Told k ds ts l = run_told k ds ts l r in
    record {
      answered = (λ j. q j ∷ i.answered j) ∙ ap (λ (o : HallState). (step h c).answer ∷ answers o ds) p;
      left = i.left ∙ ap (λ (o : HallState). after o ds) p;
    }

-- calls told up to some hall, and further ones from there on, are told together
pub told_on : (h k l : HallState) (cs ds : List Call) (rs ts : List Answer) → Told h cs rs k → Told k ds ts l → Told h (cs ++ ds) (rs ++ ts) l
told_on h k l cs ds rs ts a b =
    record {
      answered = (λ j. a.answered j ++ (b.answered ∙ ap (λ (o : HallState). answers o ds) a.left) j) ∙ sym (answers_append h cs ds);
      left = b.left ∙ ap (λ (o : HallState). after o ds) a.left ∙ sym (after_append h cs ds);
    }

-- demand 3 and fairness of every run from an empty hall
pub demand3_of_runs : (sizes : List TeamComposition) (calls : List Call) (rs : List Answer) (l : HallState) → Run (empty sizes) calls rs l → Kept sizes calls rs l
demand3_of_runs sizes calls rs l r = record { told = run_told (empty sizes) calls rs l r; demand = demand3 sizes calls; fair = λ pre post g e. fair sizes pre post g }

-- what older notes answer, in every run from a hall that is handed in
pub older_of_runs : (h : HallState) (calls : List Call) (rs : List Answer) (l : HallState) → Run h calls rs l → KeptFrom h calls rs l
older_of_runs h calls rs l r = record { told = run_told h calls rs l r; older = older h calls }
