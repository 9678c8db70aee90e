-- What a call hands out can be read off the sheet that it leaves.
use Prim.Native.Nat.{ℕ}
use mathlib.Core.Path.{◌≡◌, refl, sym, ap, ◌∙◌}
use mathlib.Core.List.{List, [], ◌∷◌, ◌++◌, append_assoc}
use lib.Ieee.{Float}
use lib.ListN.{length, take, drop}
use lib.Seq.{take_at, drop_at, drop-drop}
use Rattle.base.specs.Refusals.{gives}
use Rattle.base.specs.Lists.{All}
use Rattle.matchmaker.specs.Quality.{MatchState, seated}
use Rattle.seating.specs.declared.TeamComposition.{TeamComposition}
use Rattle.seating.specs.Seating.{Sheets, lineup, seats_of, seats, handed_out, read_off, told_by}

-- a match whose teams state their own sizes is the lineup of its players
pub lined_up : (m : MatchState) → (m.a.size ≡ length m.a.players) × (m.b.size ≡ length m.b.players) → m ≡ lineup m.a.players m.b.players
lined_up m e = λ j. record { a = record { size = e.0 j; players = m.a.players }; b = record { size = e.1 j; players = m.b.players } }

-- full matches in their order, and anything behind them, are read off as these matches
pub read_off_lem : (s : TeamComposition) (ms : List MatchState) (more : List ℕ) → All (λ m. (length m.a.players ≡ s.a) × (length m.b.players ≡ s.b)) ms → All (λ m. m ≡ lineup m.a.players m.b.players) ms → read_off s (length ms) (seats ms ++ more) ≡ ms
unfolding read_off seats
read_off_lem s [] more z l = refl
read_off_lem s (m ∷ ms) more z l =
    let a : List ℕ = m.a.players in
    let b : List ℕ = m.b.players in
    let rest : List ℕ = seats ms ++ more in
    let whole : (seated m ++ seats ms) ++ more ≡ a ++ (b ++ rest) = append_assoc (seated m) (seats ms) more ∙ append_assoc a b rest in
    let first : take s.a (a ++ (b ++ rest)) ≡ a = take_at a (b ++ rest) s.a z.0.0 in
    let past : drop s.a (a ++ (b ++ rest)) ≡ b ++ rest = drop_at a (b ++ rest) s.a z.0.0 in
    let second : take s.b (b ++ rest) ≡ b = take_at b rest s.b z.0.1 in
    let behind : drop (seats_of s) (a ++ (b ++ rest)) ≡ rest = sym (drop-drop s.b s.a (a ++ (b ++ rest))) ∙ ap (drop s.b) past ∙ drop_at b rest s.b z.0.1 in
    rw (whole, first, past, second, behind, read_off_lem s ms more z.1 l.1) (ap (λ (x : MatchState). x ∷ ms) (sym l.0))

-- so a call tells the full matches that it hands out
pub told_matches : (s : TeamComposition) (quality : MatchState → Float) (ms : List MatchState) (sheets : Sheets) → All (λ m. (length m.a.players ≡ s.a) × (length m.b.players ≡ s.b)) ms → All (λ m. m ≡ lineup m.a.players m.b.players) ms → told_by s (handed_out quality (gives ms) sheets) ≡ ms
told_matches s quality ms sheets z l = read_off_lem s ms (drop (length (seats ms)) sheets.players) z l
