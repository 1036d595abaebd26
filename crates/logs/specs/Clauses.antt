-- What the contracts of the parts of a check say.
use Rattle.std.specs.Prelude.{ℕ, ◌+◌, ◌-◌, ◌*◌, ◌≤◌, ◌≡◌, ◌↔◌, Bool, true, ◌&&◌, [], ◌++◌, length, take, drop, Option, Some, is_some, IfSome, Result, Ok, Err}
use mathlib.Core.List as Lists
use Rattle.simulation.specs.Calls.{Call, judge, bytes_of, original}
use Rattle.simulation.specs.Machine.{label_step, snaps_of}
use Rattle.transition.specs.Logs.{fits_next, at_front, right}
use Rattle.moves.specs.Moves.{final_number}
use Rattle.moves.specs.declared.Refusal.{Refusal}
use Rattle.arrays.specs.declared.Parts.{Parts}
use Rattle.arrays.specs.declared.OrderedTable.{OrderedTable}
use Rattle.arrays.specs.Arrays.{Rows, Planes}
use Rattle.arrays.specs.Planes.{beside}
use Rattle.schedule.specs.Files.{lines_of}
use Rattle.schedule.specs.Demand.{step_calls}
use Rattle.schedule.specs.Numbers.{reading_refusal}
use Rattle.schedule.specs.Logs.{RightLog}
use Rattle.unbounded.specs.Tables.{Table, numbers_in, restᵘ, stateᵘ, answeredᵘ, Runnableᵘ}
use Rattle.logs.specs.Files.{RightFile}
use Rattle.logs.specs.declared.Ran.{Ran}
use Rattle.logs.specs.declared.Progress.{Progress}

-- what the unbounded table writes for a call with the first of the numbers left
abbrev pub writes : Table → Call → Lists.List ℕ → Lists.List ℕ
writes t c ns = bytes_of (answeredᵘ t c ns).report

-- the call c, where the first `used` numbers are used up and the next one fits: the table left holds the state that the machine comes to, it is told how many
-- numbers are used up, and what the call writes is at the front of the buffer
pub record RanTo (t : Table) (c : Call) (log : Lists.List ℕ) (used : ℕ) (t' : Table) (buffer : Lists.List ℕ) (r : Ran) : Type 0 where
  pub count : t'.count ≡ t.count
  pub state : stateᵘ t' ≡ (answeredᵘ t c (drop used log)).state
  pub numbers : (r.used ≡ used + snaps_of original t.count (stateᵘ t) c) × (r.used ≤ length log)
  pub bytes : (take r.written buffer ≡ writes t c (drop used log)) × (r.written ≤ 928)

-- and whether it fits
pub record RunsCall (t : Table) (c : Call) (log : Lists.List ℕ) (used : ℕ) (t' : Table) (buffer : Lists.List ℕ) (r : Option Ran) : Type 0 where
  pub fits : is_some r ≡ fits_next t.count (beside t.numbers) (label_step (judge original t.count (restᵘ t) c)) (drop used log)
  pub ran : IfSome r (RanTo t c log used t' buffer)

-- A CHECK that goes on: the numbers left of its list, the bytes that the last step wrote and that the report is still to show, and the steps left of the
-- schedule
abbrev pub numbers_left : Progress → Lists.List ℕ → Lists.List ℕ
numbers_left c list = drop c.used (take c.count list)

abbrev pub pending : Progress → Lists.List ℕ → Lists.List ℕ
pending c buffer = take (c.written - c.shown) (drop c.shown buffer)

abbrev pub calls_left : Progress → Lists.List ℕ → Lists.List Call
calls_left c file = step_calls original c.lines (lines_of (drop c.at file))

-- what is told of the log, if these bytes are all that is still to come of its report
abbrev pub ahead_log : Progress → Table → Lists.List ℕ → Lists.List ℕ → Lists.List ℕ → Lists.List ℕ → Bool
ahead_log c t file list buffer report =
    c.right && (at_front (pending c buffer) report
    && right original t.count (stateᵘ t) (numbers_left c list) (drop (length (pending c buffer)) report) (calls_left c file))

-- the same check at another place
abbrev pub placed_at : Progress → Bool → ℕ → ℕ → ℕ → ℕ → ℕ → Progress
placed_at c right used lines at written shown = record {
  right = right;
  count = c.count;
  used = used;
  lines = lines;
  at = at;
  written = written;
  shown = shown;
}

-- the table and the places of a check
pub record Checking (c : Progress) (t : Table) (order file list buffer : Lists.List ℕ) : Type 0 where
  pub runnable : Runnableᵘ t order
  pub numbers : (c.used ≤ c.count) × (c.count ≤ length list)
  pub place : (c.at ≤ length file) × (c.lines ≤ 1000001)
  pub bytes : (c.shown ≤ c.written) × (c.written ≤ 928)
  pub room : length buffer ≡ 928

-- how much is left of the schedule, and of what its last step wrote
abbrev pub work_left : Progress → Lists.List ℕ → ℕ
work_left c file = 929 * (length file - c.at) + (c.written - c.shown)

-- where the last step has nothing to show, no step is left
abbrev pub Drained : Progress → Lists.List ℕ → Type 0
Drained c file = c.right ≡ true → c.shown ≡ c.written → calls_left c file ≡ []

-- a part of the report: whatever comes after it, what is told of the log is the same as before
pub record FeedsReport (c : Progress) (t : Table) (file list buffer part : Lists.List ℕ) (c' : Progress) (t' : Table) (buffer' : Lists.List ℕ) : Type 0 where
  pub same : (more : Lists.List ℕ) → ahead_log c t file list buffer (part ++ more) ≡ ahead_log c' t' file list buffer' more
  pub drained : Drained c' file
  pub fewer : c'.right ≡ true → work_left c' file + length part ≤ work_left c file

-- the end of the report
pub record Finishes (c : Progress) (yes : Bool) : Type 0 where
  pub told : (t : Table) (order file list buffer : Lists.List ℕ) → Checking c t order file list buffer → Drained c file
      → yes ≡ ahead_log c t file list buffer []

-- THE START of the log of a file, from the table of n stations that the header tells, with any buffer of 928 bytes. The refusal is the file's, or, if there is
-- none, what is told of the log is yes exactly if `Right` holds of its report.
pub record StartsCheck (bs : Lists.List ℕ) (Right : Lists.List ℕ → Type 0) (c : Progress) (t : Table) (order list buffer : Lists.List ℕ) : Type 0 where
  pub accepted : final_number (reading_refusal bs) ≡ 0
  pub exactly : (report : Lists.List ℕ) → (ahead_log c t bs list buffer report ≡ true) ↔ Right report
  pub checking : Checking c t order bs list buffer

abbrev pub StartsBy : Lists.List ℕ → (Lists.List ℕ → Type 0) → Lists.List ℕ → Result (Progress × OrderedTable (Parts Rows Rows Rows Planes)) Refusal → Type 0
StartsBy bs Right list (Err r) = Some r ≡ reading_refusal bs
StartsBy bs Right list (Ok s) = (buffer : Lists.List ℕ) → length buffer ≡ 928 → StartsCheck bs Right s.0 (numbers_in s.1) s.1.order list buffer

-- with these numbers, which are all that there are, or not; and with those of a file
abbrev pub Begins : Lists.List ℕ → Lists.List ℕ → Bool → Lists.List ℕ → Result (Progress × OrderedTable (Parts Rows Rows Rows Planes)) Refusal → Type 0
Begins bs ns whole = StartsBy bs (λ report. (whole ≡ true) × RightLog bs ns report)

abbrev pub BeginsFile : Lists.List ℕ → Lists.List ℕ → Lists.List ℕ → Result (Progress × OrderedTable (Parts Rows Rows Rows Planes)) Refusal → Type 0
BeginsFile bs numbers = StartsBy bs (RightFile bs numbers)
