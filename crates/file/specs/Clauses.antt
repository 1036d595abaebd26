-- What the contracts of the run of a file say, on tables in the arrays that are lent.
use Rattle.std.specs.Prelude.{ℕ, ◌+◌, ◌*◌, ◌/◌, ◌≤◌, ◌<◌, min, ◌≡◌, ◌≢◌, ◌⊎◌, Bool, cond, [], length, get_or, leb, Result, Ok, Err, IfOk}
use mathlib.Core.List as Lists
use Rattle.basics.specs.Tests.{newest}
use Rattle.rows.specs.Held.{stands_in}
use Rattle.simulation.specs.Calls as Calls
use Rattle.simulation.specs.Calls.{original, Call, judge, bytes_of}
use Rattle.transition.specs.Forms.{over, fresh_table, step_of, after}
use Rattle.moves.specs.Moves.{refusal_number, final_number, move_of}
use Rattle.arrays.specs.Arrays.{Arrays, rest_of}
use Rattle.arrays.specs.Form.{lent}
use Rattle.engine.specs.Clauses.{Hands}
use Rattle.engine.specs.Scans.{order_of}
use Rattle.schedule.specs.Tables.{tables}
use Rattle.schedule.specs.Sessions.{Session, session}
use Rattle.schedule.specs.Files.{cut, printed, run_lines, file_report, file_refusal}
use Rattle.moves.specs.declared.Refusal.{Refusal}
use Rattle.engine.specs.declared.Handed.{Handed}
use Rattle.file.specs.declared.Turn.{Turn}
use Rattle.file.specs.declared.Progress.{Progress}
use Rattle.file.specs.declared.Ending.{Ending}

-- a table that step calls leave of the fresh one, with its scan order
pub record Runnable (a : Arrays) (order : Lists.List ℕ) : Type 0 where
  pub low : 2 ≤ a.count
  pub high : a.count ≤ 32
  pub calls : Lists.List Call
  pub reached : a ≡ after lent (fresh_table lent a.count) calls
  pub is_order : order ≡ order_of a.count (get_or a.labels 0 [])

-- the step call c on the table a, up to what is written of it: the table left and what is handed out, what the call amounts to, and the newest station
-- before it
abbrev pub handed_in : Result Turn Refusal → Result Handed Refusal
handed_in (Ok t) = Ok t.handed
handed_in (Err r) = Err r

abbrev pub action_in : ℕ → Result Turn Refusal → Calls.Move
action_in job (Ok t) = move_of t.handed.place job t.action
action_in job (Err r) = Calls.Move.refused (refusal_number r)

pub record Turns (a : Arrays) (c : Call) (a' : Arrays) (r : Result Turn Refusal) : Type 0 where
  pub hands : Hands a c a' (handed_in r)
  pub action : action_in c.job r ≡ judge original a.count (rest_of a) c
  pub newest : IfOk r (λ t. t.newest ≡ newest a.count (stands_in a.count (get_or a.labels 0 [])))

-- the step call c on the table a, and what its line prints into the buffer: n bytes
pub record Prints (a : Arrays) (c : Call) (buffer : Lists.List ℕ) (a' : Arrays) (n : ℕ) (buffer' : Lists.List ℕ) : Type 0 where
  pub table : a' ≡ (step_of lent a c).table
  pub count : n ≡ length (printed c.line (step_of lent a c).refusal (bytes_of (step_of lent a c).report))
  pub report : buffer' ≡ over (printed c.line (step_of lent a c).refusal (bytes_of (step_of lent a c).report)) buffer

-- how many lines the first bytes of a part of the file are cut into
abbrev pub read_lines : ℕ → ℕ
read_lines read = (read + 17) / 18

-- the lines of a part of the file, served from the session s. Those read leave the session and print the bytes. Before each of them none was refused for
-- good and there was room for 928 bytes; after them one of the two fails, or the part is at its end. Each prints at most 928 bytes and, if none is refused for
-- good, is counted.
pub record Reports (s : Session Arrays) (chunk : Lists.List ℕ) (a : Arrays) (r : Progress) (buffer buffer' : Lists.List ℕ) : Type 0 where
  pub whole : r.read ≡ min (18 * read_lines r.read) (length chunk)
  pub bytes : Lists.List ℕ
  pub runs : run_lines (tables lent) s (cut (read_lines r.read) chunk)
      ≡ record { session = session r.lines r.refusal a; refusal = final_number r.refusal; bytes = bytes }
  pub written : r.written ≡ length bytes
  pub report : buffer' ≡ over bytes buffer
  pub goes : (k : ℕ) → k < read_lines r.read
      → ((run_lines (tables lent) s (cut k chunk)).refusal ≡ 0) × (length (run_lines (tables lent) s (cut k chunk)).bytes + 928 ≤ length buffer)
  pub stops : (final_number r.refusal ≢ 0) ⊎ ((r.read ≡ length chunk) ⊎ (length buffer < r.written + 928))
  pub short : r.written ≤ 928 * read_lines r.read
  pub counted : final_number r.refusal ≡ 0 → (r.lines ≡ s.lines + read_lines r.read) × (s.lines ≤ 1000001 → r.lines ≤ 1000001)

-- the run of a whole file: its final refusal, and how long its report is, at most 928 bytes for each line; if it fits, it is written
pub record RunsFile (bs : Lists.List ℕ) (r : Ending) (buffer buffer' : Lists.List ℕ) : Type 0 where
  pub refusal : final_number r.refusal ≡ file_refusal (tables lent) bs
  pub long : r.length ≡ length (file_report (tables lent) bs)
  pub report : r.length ≤ length buffer → buffer' ≡ over (file_report (tables lent) bs) buffer
  pub short : r.length ≤ 928 * (length bs / 18 + 1)

-- the report of a whole file: 7, and nothing is written, exactly if it does not fit; in either case the final refusal of the file and the length of its report
abbrev pub fits : Lists.List ℕ → Lists.List ℕ → Bool
fits bs buffer = leb (length (file_report (tables lent) bs)) (length buffer)

pub record ReportsFile (bs buffer : Lists.List ℕ) (refusal ended written size : ℕ) (buffer' : Lists.List ℕ) : Type 0 where
  pub number : refusal ≡ cond (fits bs buffer) 0 7
  pub final : ended ≡ file_refusal (tables lent) bs
  pub count : written ≡ cond (fits bs buffer) (length (file_report (tables lent) bs)) 0
  pub long : size ≡ length (file_report (tables lent) bs)
  pub report : buffer' ≡ cond (fits bs buffer) (over (file_report (tables lent) bs) buffer) buffer
