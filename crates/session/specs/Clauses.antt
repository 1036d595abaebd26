-- What the contracts of a session say: the declared session as the one that schedule/specs specifies, on the struct's tables.
use Rattle.std.specs.Prelude.{ℕ, ◌≡◌, ◌≢◌}
use mathlib.Core.List as Lists
use Rattle.moves.specs.Moves.{told_number, told_count}
use Rattle.schedule.specs.Sessions as Sessions
use Rattle.schedule.specs.Sessions.{Serves}
use Rattle.table.specs.declared.Table.{Table}
use Rattle.session.specs.declared.Session.{Session}
use Rattle.session.specs.declared.Served.{Served}

abbrev pub session_of : Session → Sessions.Session Table
session_of s = Sessions.session s.lines s.refusal s.table

-- what is handed back, and the report buffer left, are what is specified
abbrev pub ServedAs : Sessions.Served Table → Served → Lists.List ℕ → Lists.List ℕ → Type 0
ServedAs o r buffer buffer' = Serves o (session_of r.session) (told_number r.reply) (told_count r.reply) buffer buffer'

-- a line that is refused leaves the table and the report buffer (01, "When a step is turned down")
abbrev pub Keeps : Session → Served → Lists.List ℕ → Lists.List ℕ → Type 0
Keeps s r buffer buffer' = told_number r.reply ≢ 0 → (r.session.table ≡ s.table) × (buffer' ≡ buffer)
