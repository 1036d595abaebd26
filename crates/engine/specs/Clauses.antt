-- What the contracts of the engine say.
use Rattle.std.specs.Prelude.{ℕ, ◌≤◌, ◌<◌, ◌≡◌, true, cond, [], ◌∷◌, length, get_or, take, eqb, Result, Ok, Err, IfOk, IfErr}
use mathlib.Core.List as Lists
use Rattle.basics.specs.Tests.{newest}
use Rattle.label.specs.Labels as Labels
use Rattle.rows.specs.Held.{stands_in, Orderly}
use Rattle.simulation.specs.Calls as Calls
use Rattle.simulation.specs.Calls.{Room, Call, holds, judge_in, PanelRecord, Entry, written, original}
use Rattle.simulation.specs.Machine as Machine
use Rattle.simulation.specs.Machine.{digits, State, labels_after, outcome, carry_out}
use Rattle.transition.specs.Forms.{step_of}
use Rattle.moves.specs.Moves.{refusal_number, told_number, move_of, call_of, place_of, standing_for}
use Rattle.arrays.specs.Arrays.{Rows, Planes, Arrays, cell, phase_for, out_for, entries_in, shown_in, rest_in, labels_in, state_of, labels_of, arrays_of, Holds}
use Rattle.arrays.specs.WellFormed.{well_formed}
use Rattle.arrays.specs.Form.{lent}
use Rattle.engine.specs.Scans.{order_of}
use Rattle.moves.specs.declared.Request.{Request}
use Rattle.moves.specs.declared.Move.{Move}
use Rattle.moves.specs.declared.Move.TheVariants as Moves
use Rattle.moves.specs.declared.Move.TheVariants.{BeginLabel, SnapLabel, SnapScan, EndLabel, EndScan, LeaveService, ReturnToService}
use Rattle.moves.specs.declared.Refusal.{Refusal}
use Rattle.engine.specs.declared.Task.{Task}
use Rattle.engine.specs.declared.Handed.{Handed}

-- a judged call as a move of the machine
abbrev pub action_of : Result Task Refusal → Calls.Move
action_of (Ok x) = move_of x.place x.job x.action
action_of (Err r) = Calls.Move.refused (refusal_number r)

-- the first k stations in rows are at most 32, as those of a well-formed table
abbrev pub Named : ℕ → Rows → Type 0
Named k rows = (p : ℕ) → p < k → cell rows 0 p 0 ≤ 32

-- what a task asks for on the arrays of a table: a place in it; the job, the newest station, the scan order and the entries of the result where its move needs
-- them
pub record Fitting (a : Arrays) (order : Lists.List ℕ) (x : Task) : Type 0 where
  pub inside : x.place < a.count
  pub job_fits : x.action ≡ BeginLabel → x.job ≤ 4294967295
  pub is_newest : x.action ≡ SnapLabel → x.newest ≡ newest a.count (stands_in a.count (get_or a.labels 0 []))
  pub is_order : x.action ≡ SnapScan → order ≡ order_of a.count (get_or a.labels 0 [])
  pub is_shown : x.action ≡ EndScan → x.shown ≡ shown_in a.count (cell a.results x.place 0 [])

-- what a judged call asks for: a well-formed table, and the task that it is, if it is not refused
pub record Prepared (a : Arrays) (x : Result Task Refusal) (order : Lists.List ℕ) : Type 0 where
  pub passed : well_formed a ≡ true
  pub high : a.count ≤ 32
  pub task : IfOk x (Fitting a order)

-- what a task asks for of what is not labels, whatever the labels are: an order of n processes for a snap; and at the end of a scan the entries of the result,
-- with stations of at most 32
pub record FittingRest (n : ℕ) (results : Planes) (order : Lists.List ℕ) (x : Task) : Type 0 where
  pub inside : x.place < n
  pub job_fits : x.action ≡ BeginLabel → x.job ≤ 4294967295
  pub listed : x.action ≡ SnapScan → (n ≤ length order) × ((p : ℕ) → p < n → get_or order p 0 < 32)
  pub is_shown : x.action ≡ EndScan → x.shown ≡ shown_in n (cell results x.place 0 [])
  pub named : x.action ≡ EndScan → Named x.shown (get_or results x.place [])

-- what a judged call asks for of it: the three arrays hold it and nothing else, and the task
pub record PreparedRest (n : ℕ) (jobs control : Rows) (results : Planes) (x : Result Task Refusal) (order : Lists.List ℕ) : Type 0 where
  pub holds : Holds (rest_in n jobs control results) jobs control results
  pub high : n ≤ 32
  pub task : IfOk x (FittingRest n results order)

-- what a task asks for of the labels: written down they are the same, they are in order, and the newest station is known where a snap needs it
pub record PreparedLabels (n : ℕ) (labels : Planes) (m : Move) (k z : ℕ) : Type 0 where
  pub exact : labels ≡ labels_of (labels_in labels)
  pub orderly : Orderly n (get_or labels 0 [])
  pub inside : k < n
  pub is_newest : m ≡ SnapLabel → z ≡ newest n (stands_in n (get_or labels 0 []))

-- how many entries a move hands out, where the result at its place shows k
abbrev pub hands_out : ℕ → Move → ℕ
hands_out k BeginLabel = 0
hands_out k SnapLabel = 0
hands_out k SnapScan = 0
hands_out k Moves.Update = 0
hands_out k EndLabel = 0
hands_out k EndScan = k
hands_out k LeaveService = 0
hands_out k ReturnToService = 0

-- how many a process whose phase has this number may hand out; and the process at place k, with what its call is judged by
abbrev pub due : ℕ → ℕ → ℕ
due number k = cond (eqb number 4) k 0

abbrev pub due_at : ℕ → Rows → Planes → ℕ → ℕ
due_at n control results k = due (cell control 0 k 0) (shown_in n (cell results k 0 []))

abbrev pub standing_at : ℕ → Rows → Planes → ℕ → Calls.Standing
standing_at n control results k = standing_for (phase_for (cell control 0 k 0)) (out_for (cell control 1 k 0)) (due_at n control results k)

-- what a judged call hands out, a refused one nothing; and the entries that this is of the results
abbrev pub handed_by : Result Task Refusal → Result Handed Refusal
handed_by (Ok x) = Ok (record { place = x.place; entries = hands_out x.shown x.action })
handed_by (Err r) = Err r

abbrev pub entries_told : Result Handed Refusal → Planes → Lists.List Entry
entries_told (Ok h) results = entries_in h.entries (get_or results h.place [])
entries_told (Err r) results = []

-- what the machine makes of the state that the arrays hold: the state after a move, and the outcome for what is not labels
abbrev pub outcome_of : Arrays → Calls.Move → Machine.Outcome
outcome_of a w = outcome original a.count (digits original a.count) (state_of a) w

abbrev pub state_after : Arrays → Calls.Move → State Labels.Label
state_after a w = record { labels = labels_after a.count (digits original a.count) (state_of a) w; rest = (outcome_of a w).rest }

-- the move w, carried out on the arrays a: the arrays left, the refusal, and the entries that are handed out, all of the result at their place
pub record Performs (a : Arrays) (w : Calls.Move) (a' : Arrays) (r : Result Handed Refusal) : Type 0 where
  pub table : a' ≡ arrays_of a.count (state_after a w)
  pub number : told_number r ≡ (outcome_of a w).refusal
  pub handed : (outcome_of a w).handed ≡ entries_told r a'.results

-- a judged call carried out on what is not labels, where the n processes stand in this order: what the arrays hold then, the refusal, and the entries of the
-- result at its place
abbrev pub rest_after : ℕ → Rows → Rows → Planes → Result Task Refusal → Lists.List ℕ → Machine.Outcome
rest_after n jobs control results x order = carry_out original (take n order) (rest_in n jobs control results) (action_of x)

pub record CarriesRest (o : Machine.Outcome) (x : Result Task Refusal) (jobs control : Rows) (results : Planes) (r : Result Handed Refusal) : Type 0 where
  pub holds : Holds o.rest jobs control results
  pub number : told_number r ≡ o.refusal
  pub told : r ≡ handed_by x
  pub handed : o.handed ≡ entries_told r results
  pub named : IfOk r (λ h. Named h.entries (get_or results h.place []))

-- a judged call carried out; a refused one leaves the arrays
pub record Carries (a : Arrays) (x : Result Task Refusal) (a' : Arrays) (r : Result Handed Refusal) : Type 0 where
  pub performed : Performs a (action_of x) a' r
  pub told : r ≡ handed_by x
  pub named : IfOk r (λ h. Named h.entries (get_or a'.results h.place []))
  pub kept : IfErr r (λ _. a' ≡ a)

-- the task x that the call q comes to on a table of n stations with these control bytes and results, and this newest station
pub record Meant (n : ℕ) (control : Rows) (results : Planes) (q : Request) (top : ℕ) (x : Task) : Type 0 where
  pub place : x.place ≡ place_of n q.station
  pub shown : x.shown ≡ due_at n control results (place_of n q.station)
  pub job : x.job ≡ q.job
  pub newest : x.newest ≡ top

-- that call, judged, with room for its report: the move, and the task if it is not refused
pub record Judges (n : ℕ) (control : Rows) (results : Planes) (q : Request) (room : Room) (top : ℕ) (x : Result Task Refusal) : Type 0 where
  pub action : action_of x ≡ judge_in original n (standing_at n control results (place_of n q.station)) (call_of q room)
  pub task : IfOk x (Meant n control results q top)

-- the place of the station that a call names, as it is judged; 0 where the table is not
abbrev pub place_in : Arrays → Call → ℕ
place_in a c = cond (well_formed a) (place_of a.count c.station) 0

-- what the call c hands out of the arrays left: the entries that make its report, for which there is room
pub record HandsOut (a : Arrays) (c : Call) (a' : Arrays) (h : Handed) : Type 0 where
  pub place : h.place ≡ place_in a c
  pub inside : h.place < 32
  pub few : h.entries ≤ 32
  pub named : Named h.entries (get_or a'.results h.place [])
  pub room : holds c.room h.entries ≡ true

-- the call c on the arrays a, up to what is written of it: the arrays left, the refusal, and the entries that make its report. A refused call leaves the arrays
-- and hands out nothing.
pub record Hands (a : Arrays) (c : Call) (a' : Arrays) (r : Result Handed Refusal) : Type 0 where
  pub table : a' ≡ (step_of lent a c).table
  pub number : told_number r ≡ (step_of lent a c).refusal
  pub report : (step_of lent a c).report ≡ written c.line c.room (entries_told r a'.results)
  pub handed : IfOk r (HandsOut a c a')
  pub kept : IfErr r (λ _. a' ≡ a)

-- a record of a panel as three numbers
abbrev pub row_of : PanelRecord → Lists.List ℕ
row_of r = r.place ∷ r.station ∷ r.job ∷ []

abbrev pub record_of : Lists.List ℕ → PanelRecord
record_of l = record { place = get_or l 0 0; station = get_or l 1 0; job = get_or l 2 0 }
