-- The unbounded table in arrays: numbers in two planes, and beside them the arrays that a table of labels has (01, "The growing-number table"; 02, Card 7).
use Rattle.std.specs.Prelude.{ℕ, ◌+◌, ◌≤◌, ◌<◌, ◌≡◌, false, cond, [], length, get_or, drop, Option, Some, is_some, IfSome, IfNone, IfOk}
use mathlib.Core.List as Lists
use Rattle.basics.specs.Tests.{newest, All}
use Rattle.simulation.specs.Calls.{Call, Entry, Rest, judge, bytes_of, report_lines, original}
use Rattle.simulation.specs.Machine.{Labelling, stands, label_step, label_snap, fresh_rest, State, Answer, step, snaps_of}
use Rattle.simulation.specs.Numbered.{numbered}
use Rattle.transition.specs.Logs.{fits_next}
use Rattle.moves.specs.Moves.{told_number, move_of, place_of}
use Rattle.moves.specs.declared.Move.{Move}
use Rattle.moves.specs.declared.Move.TheVariants.{SnapLabel}
use Rattle.arrays.specs.Arrays.{Rows, Planes, rest_in, Holds}
use Rattle.arrays.specs.Planes.{beside}
use Rattle.engine.specs.Clauses.{Named, entries_told}
use Rattle.engine.specs.declared.Handed.{Handed}
use Rattle.arrays.specs.declared.Parts.{Parts}
use Rattle.arrays.specs.declared.OrderedTable.{OrderedTable}
use Rattle.unbounded.specs.Numbers.{order_by}
use Rattle.unbounded.specs.declared.NumberedTurn.{NumberedTurn}

-- a table of `count` stations
pub record Table : Type 0 where
  pub count : ℕ
  pub numbers : Rows
  pub jobs : Rows
  pub control : Rows
  pub results : Planes

abbrev pub table : ℕ → Rows → Rows → Rows → Planes → Table
table n v j c r = record { count = n; numbers = v; jobs = j; control = c; results = r }

-- that of an ordered table, which has numbers where another has labels
abbrev pub numbers_in : OrderedTable (Parts Rows Rows Rows Planes) → Table
numbers_in t = table t.count t.parts.labels t.parts.jobs t.parts.control t.parts.results

-- the state that it holds
abbrev pub restᵘ : Table → Rest
restᵘ t = rest_in t.count t.jobs t.control t.results

abbrev pub stateᵘ : Table → State ℕ
stateᵘ t = record { labels = beside t.numbers; rest = restᵘ t }

-- a table that calls can lead to, with its scan order: the arrays hold its rest and nothing else, past the last station all is fresh, and results name
-- stations
pub record Runnableᵘ (t : Table) (order : Lists.List ℕ) : Type 0 where
  pub low : 2 ≤ t.count
  pub high : t.count ≤ 32
  pub holds : Holds (restᵘ t) t.jobs t.control t.results
  pub past : (i : ℕ) → t.count ≤ i → ((restᵘ t).process i ≡ fresh_rest.process i) × ((restᵘ t).result i ≡ fresh_rest.result i)
  pub named : (i : ℕ) → All (λ (e : Entry). e.station ≤ t.count) ((restᵘ t).result i)
  pub is_order : order ≡ order_by t.count (get_or t.numbers 0 [])

-- how many numbers a move takes that is given this one, or none
abbrev pub taken : Option ℕ → ℕ
taken v = cond (is_some v) 1 0

-- what a move of station k is given, where z is the newest and these are the current numbers; the first `used` of the numbers of the log are used up. There is
-- something, a number or none, exactly if the next number fits.
pub record GivenTo (m : Move) (k z : ℕ) (current log : Lists.List ℕ) (used : ℕ) (r : Option (Option ℕ)) : Type 0 where
  pub passes : (n job : ℕ) (N : Labelling ℕ) → N false ≡ (λ i. get_or current i 0) → z ≡ newest n (stands (numbered 0) N)
      → is_some r ≡ fits_next n N (label_step (move_of k job m)) (drop used log)
  pub next : IfSome r (λ v. m ≡ SnapLabel → v ≡ Some (get_or (drop used log) 0 0))
  pub counted : IfSome r (λ v. (job : ℕ) → taken v ≡ label_snap (label_step (move_of k job m)))
  pub inside : IfSome r (λ v. used + taken v ≤ length log)

-- what the machine answers to a call with the first of the numbers left
abbrev pub answeredᵘ : Table → Call → Lists.List ℕ → Answer ℕ
answeredᵘ t c ns = step original t.count (numbered (get_or ns 0 0)) (stateᵘ t) c

-- what a call hands out: entries of the result at the place of its station
pub record Handsᵘ (t : Table) (c : Call) (t' : Table) (h : Handed) : Type 0 where
  pub place : h.place ≡ place_of t.count c.station
  pub inside : h.place < 32
  pub few : h.entries ≤ 32
  pub named : Named h.entries (get_or t'.results h.place [])

-- A CALL with room for a whole scan result, where the first `used` of the numbers are used up. If the next number fits, the table left holds the state that
-- the machine comes to; the numbers used up, the refusal and the entries that make the report are told.
pub record Servedᵘ (t : Table) (c : Call) (given : Lists.List ℕ) (used : ℕ) (t' : Table) (r : NumberedTurn) : Type 0 where
  pub state : stateᵘ t' ≡ (answeredᵘ t c (drop used given)).state
  pub counted : r.used ≡ used + snaps_of original t.count (stateᵘ t) c
  pub enough : r.used ≤ length given
  pub number : told_number r.handed ≡ (answeredᵘ t c (drop used given)).refusal
  pub handed : IfOk r.handed (Handsᵘ t c t')
  pub report : bytes_of (answeredᵘ t c (drop used given)).report ≡ report_lines c.line 1 (entries_told r.handed t'.results)

-- if not, nothing changes, and nothing is told: no number is used up, and nothing is handed out. The call would be accepted, as it asks for a number.
pub record Kept (t : Table) (order : Lists.List ℕ) (t' : Table) (order' : Lists.List ℕ) : Type 0 where
  pub table : t' ≡ t
  pub listed : order' ≡ order

pub record Turnsᵘ (t : Table) (order : Lists.List ℕ) (c : Call) (given : Lists.List ℕ) (used : ℕ) (t' : Table) (order' : Lists.List ℕ)
    (r : Option NumberedTurn) : Type 0 where
  pub fits : is_some r ≡ fits_next t.count (beside t.numbers) (label_step (judge original t.count (restᵘ t) c)) (drop used given)
  pub served : IfSome r (Servedᵘ t c given used t')
  pub kept : IfNone r (Kept t order t' order')
