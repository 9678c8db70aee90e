-- A refusal, no match, or the match at the front of the sheets.
use borrow.Author.Rules.{rules}
use mathlib.Core.Path.{◌≡◌, refl, ap, ◌∙◌}
use native.Mathlib.Omega.{arith}
use lib.ListN.{length}
use Rattle.std.specs.Prelude.{Option, option_map}
use Rattle.base.specs.Refusals.{Outcome, gives}
use Rattle.base.proofs.Arrays.{unmapped}
use Rattle.matchmaker.specs.Quality.{match_of}
use Rattle.matchmaker.specs.declared.ProposedMatch.{ProposedMatch}
use Rattle.seating.specs.Seating.{Sheets}
use Rattle.choice.specs.Full.{Selection, choice_of}
use Rattle.hall.proofs.ChoiceRounds.{choice_refused, choice_none, choice_given, seated_most}
use Rattle.hall.proofs.rounds.choice_handed.Goals as goal

pub returns-in-Err : goal.returns-in-Err
returns-in-Err c =
    let sheets : Sheets = record { players = c.args.players.now; qualities = c.args.qualities.now } in
    choice_refused sheets c.in-Err.refusal (ap choice_of c.in-Err.is) c.refuses.ensures

pub returns-in_default : goal.returns-in_default
returns-in_default c =
    let sheets : Sheets = record { players = c.args.players.now; qualities = c.args.qualities.now } in
    let told : Option ProposedMatch → Outcome Selection = λ best. gives (record { best = option_map match_of best; tried = c.in-Ok.chosen.tried }) in
    choice_none sheets (ap choice_of c.in-Ok.is ∙ ap told c.in_default.is)

pub returns : goal.returns
returns c =
    let sheets : Sheets = record { players = c.args.players.now; qualities = c.args.qualities.now } in
    let told : Option ProposedMatch → Outcome Selection = λ best. gives (record { best = option_map match_of best; tried = c.in-Ok.chosen.tried }) in
    let t = c.in-Some.teams in
    let u : length t.a.players ≡ 8 = search (unmapped, rules) in
    let v : length t.b.players ≡ 8 = search (unmapped, rules) in
    let most = seated_most t.a.players t.b.players t.a.len t.b.len u v in
    let room = c.requires in
    choice_given sheets (match_of t) (ap choice_of c.in-Ok.is ∙ ap told c.in-Some.is) (omega (arith, most, room.0)) room.1 c.write_match.ensures refl c.seats.ensures
