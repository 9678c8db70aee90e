-- The code's walk over a lent list of entries: the answer so far, and one more entry.
use Rattle.std.specs.Prelude.{ℕ, cond, ltb, Option, None, Some}
use Rattle.base.specs.Refusals.{Outcome, refused, gives}
use Rattle.queue.specs.Time.{time_over, since}
use Rattle.queue.specs.Queue.{is_of, joined_over}
use Rattle.queue.specs.declared.QueueEntry.{QueueEntry}

-- how many entries are read: none of a list over 64
abbrev pub readable : ℕ → ℕ
readable n = cond (ltb 64 n) 0 n

-- the answer before an entry is read
abbrev pub before_reading : ℕ → ℕ → Outcome (Option ℕ)
before_reading n now = cond (ltb 64 n) (refused 1) (cond (time_over now) (refused 4) (gives None))

-- the answer of one entry alone
abbrev pub entry_wait : ℕ → ℕ → QueueEntry → Outcome (Option ℕ)
entry_wait p now e = cond (joined_over e) (refused 4) (gives (cond (is_of p e) (Some (since now e.joined)) None))

-- an answer and the next one: a refusal stays, and a wait stays unless a refusal comes
abbrev pub followed : Outcome (Option ℕ) → Outcome (Option ℕ) → Outcome (Option ℕ)
followed (refused n) y = refused n
followed (gives None) y = y
followed (gives (Some t)) (refused n) = refused n
followed (gives (Some t)) (gives w) = gives (Some t)

-- the answer when one more entry is read
abbrev pub read : ℕ → ℕ → Outcome (Option ℕ) → QueueEntry → Outcome (Option ℕ)
read p now w e = followed w (entry_wait p now e)
