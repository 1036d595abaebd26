-- What the contract of a call says, and what it says before its report is written, as bytes or as records (02, Card 1).
use Rattle.std.specs.Prelude.{ℕ, ◌≤◌, ◌≡◌, true, List, [], length, get_or, Result, Ok, Err}
use Rattle.basics.specs.Tests.{tabulate}
use Rattle.simulation.specs.Calls as Calls
use Rattle.simulation.specs.Calls.{Call, Buffer, holds, Report, Bytes, size, written}
use Rattle.transition.specs.Forms.{onto, step_of}
use Rattle.transition.specs.Sequences.{Steps}
use Rattle.moves.specs.Moves.{refusal_number, told_number, told_count, call_of}
use Rattle.moves.specs.declared.Refusal.{Refusal}
use Rattle.moves.specs.declared.Request.{Request}
use Rattle.arrays.specs.Form.{lent}
use Rattle.engine.specs.Clauses.{Named, place_in}
use Rattle.table.specs.Tables.{blank, rows_of, entries_of, taken_apart, declared}
use Rattle.table.specs.declared.Entry.{Entry}
use Rattle.table.specs.declared.Table.{Table}
use Rattle.step.specs.declared.Unfilled.{Unfilled}

-- a step call with the report buffer b: the table, the reply and the buffer that it leaves
abbrev pub Reports : Table → Request → List ℕ → Table → Result ℕ Refusal → List ℕ → Type 0
Reports t q b t' reply b' = Steps declared t (call_of q (Buffer (length b))) (Bytes b) t' (told_number reply) (told_count reply) (Bytes b')

-- the first k entries of a declared result
abbrev pub first_entries : ℕ → List Entry → List Calls.Entry
first_entries k es = tabulate k 0 (λ p. let e = get_or es p blank in Calls.entry e.station e.job)

-- the report of a call that hands these entries out
abbrev pub report_of : Call → Unfilled → Report
report_of c r = written c.line c.room (first_entries r.count r.entries)

-- the entries are those of the stored result at the place of the station, after the call. There is room for those that the call hands out, and their stations
-- are at most 32; with their report at the front of what is lent, whatever that is, the call is the step.
pub record Ready (t : Table) (c : Call) (r : Unfilled) : Type 0 where
  pub entries : r.entries ≡ entries_of (get_or (step_of lent (taken_apart t) c).table.results (place_in (taken_apart t) c) [])
  pub short : r.count ≤ 32
  pub room : holds c.room r.count ≡ true
  pub named : Named r.count (rows_of r.entries)
  pub steps : (given : Report) → Steps declared t c given r.table 0 (size (report_of c r)) (onto (report_of c r) given)

-- a refused call is the step on the table as it is, and leaves what is lent
abbrev pub HandsEntries : Table → Call → Result Unfilled Refusal → Type 0
HandsEntries t c (Ok r) = Ready t c r
HandsEntries t c (Err r) = (given : Report) → Steps declared t c given t (refusal_number r) 0 given
