-- A reading session on any tables (01, "When a step is turned down"): the header opens it, and each later line is served by it. 8, 9, 12 and
-- every refusal of the header are final.
use Rattle.std.specs.Prelude.{ℕ, ◌+◌, ◌*◌, ◌≡◌, Bool, not, cond, [], length, ltb, Option, Some, None, Result, Ok, Err, is_some}
use mathlib.Core.List as Lists
use Rattle.simulation.specs.Calls.{bytes_of}
use Rattle.transition.specs.Forms.{over}
use Rattle.moves.specs.Moves.{final_number}
use Rattle.moves.specs.declared.Refusal.{Refusal}
use Rattle.schedule.specs.Tables.{Tables}
use Rattle.schedule.specs.Lines.{next_line, header_read, line_call}
use Rattle.schedule.specs.declared.Line.{Line}

-- how many lines it has counted, the header among them; its final refusal, if it has one; its table
pub record Session (T : Type 0) : Type 0 where
  pub lines : ℕ
  pub refusal : Option Refusal
  pub table : T

abbrev pub session : {T : Type 0} → ℕ → Option Refusal → T → Session T
session lines r t = record { lines = lines; refusal = r; table = t }

abbrev pub is_final : {T : Type 0} → Session T → Bool
is_final s = is_some s.refusal

-- what a line leaves: the session, the refusal number (0: accepted), and the bytes of report
pub record Served (T : Type 0) : Type 0 where
  pub session : Session T
  pub refusal : ℕ
  pub bytes : Lists.List ℕ

abbrev pub refused : {T : Type 0} → Session T → ℕ → Served T
refused s number = record { session = s; refusal = number; bytes = [] }

-- the session as it stands, and the number of its final refusal
abbrev pub unmoved : {T : Type 0} → Session T → Served T
unmoved s = refused s (final_number s.refusal)

-- a line whose refusal is final: the session keeps it
abbrev pub ended : {T : Type 0} → Session T → Option Refusal → Session T
ended s r = session s.lines r s.table

abbrev pub stopped : {T : Type 0} → Session T → Refusal → Served T
stopped s r = unmoved (ended s (Some r))

-- a line refused by 13 counts, but for those past the last
abbrev pub ill_formed : {T : Type 0} → Session T → Served T
ill_formed s = refused (session (cond (ltb s.lines 1000001) (s.lines + 1) s.lines) s.refusal s.table) 13

module _ (T : Tables) where
  -- the session that a header opens. 01 says nothing of the table behind a refused one: it is the fresh one of the fewest processes
  abbrev pub opened_by : Result ℕ Refusal → Session T.Table
  opened_by (Err r) = session 0 (Some r) (T.fresh (2 * T.board.per_station))
  opened_by (Ok n) = session 1 None (T.fresh n)

  abbrev pub header_of : Lists.List ℕ → Session T.Table
  header_of line = opened_by (header_read T.board line)

  -- a step line on a well-formed table
  abbrev pub step_line : Session T.Table → Result Line Refusal → Served T.Table
  step_line s (Err r) = stopped s r
  step_line s (Ok l) =
      let a = T.step s.table (line_call T.board s.lines l) in
      record { session = session (s.lines + 1) s.refusal a.table; refusal = a.refusal; bytes = bytes_of a.report }

  -- a line: the final refusal comes first, then 13, 12, 8, 9, and then what the step gives
  unfoldable pub serve_of : Session T.Table → Lists.List ℕ → Served T.Table
  serve_of s line =
      cond (is_final s) (unmoved s)
      (cond (not (T.well_formed s.table)) (ill_formed s)
      (step_line s (next_line s.lines line)))

-- what a call that serves a line hands back, the session, the refusal number and the count of bytes, and the report buffer that it leaves: all of it is
-- what is specified
pub record Serves {T : Type 0} (o : Served T) (s : Session T) (refusal written : ℕ) (buffer buffer' : Lists.List ℕ) : Type 0 where
  pub session : s ≡ o.session
  pub number : refusal ≡ o.refusal
  pub count : written ≡ length o.bytes
  pub report : buffer' ≡ over o.bytes buffer
