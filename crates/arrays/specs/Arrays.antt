-- A table in four arrays of numbers, one for each kind of field, so that it can be lent and changed in place (01, "The record of a station").
use Rattle.std.specs.Prelude.{ℕ, ◌≡◌, Bool, true, false, not, cond, [], ◌∷◌, get_or, eqb}
use mathlib.Core.List as Lists
use Rattle.basics.specs.Tests.{last_of, tabulate}
use Rattle.label.specs.Labels as Labels
use Rattle.label.specs.Rows.{digit, row}
use Rattle.simulation.specs.Calls.{Label, Scan, Phase, Idle, Snap, Update, End, Entry, entry, Rest}
use Rattle.simulation.specs.Machine.{State}

-- numbers in rows, and rows in planes
abbrev pub Rows : Type 0
Rows = Lists.List (Lists.List ℕ)

abbrev pub Planes : Type 0
Planes = Lists.List Rows

-- planes of labels (current, pending), of jobs (current, pending) and of control bytes (the phase; whether the station is out of service), each with a place
-- for each station; and for each station the two rows of its scan result, stations and jobs
pub record Arrays : Type 0 where
  pub count : ℕ
  pub labels : Planes
  pub jobs : Rows
  pub control : Rows
  pub results : Planes

-- the arrays of n stations, as a contract names them
abbrev pub arrays : ℕ → Planes → Rows → Rows → Planes → Arrays
arrays n l j c r = record { count = n; labels = l; jobs = j; control = c; results = r }

-- what plane f has at place i
abbrev pub cell : {A : Type 0} → Lists.List (Lists.List A) → ℕ → ℕ → A → A
cell xs f i d = get_or (get_or xs f []) i d

-- the plane of what is current (false) or pending (true), and two planes of what f gives for each station
abbrev pub plane : Bool → ℕ
plane x = cond x 1 0

abbrev pub planes : {A : Type 0} → (Bool → ℕ → A) → Lists.List (Lists.List A)
planes f = tabulate 32 0 (f false) ∷ tabulate 32 0 (f true) ∷ []

-- the number of a phase, and the phase of a number; from 5 on a number is that of none, and is read as 4 is. Since a scan snaps as it begins (02, Card 1), a
-- table has no process that is due to snap for one: such a phase has no number of its own.
abbrev pub phase_number : Phase → ℕ
phase_number Idle = 0
phase_number (Snap o) = 1
phase_number Update = 2
phase_number (End Label) = 3
phase_number (End Scan) = 4

abbrev pub phase_for : ℕ → Phase
phase_for b =
    cond (eqb b 0) Idle
    (cond (eqb b 1) (Snap Label)
    (cond (eqb b 2) Update
    (cond (eqb b 3) (End Label) (End Scan))))

-- the number of what is out of service, 1, and in service, 0 (02, Card 4); any other number is that of neither, and is read as 1 is
abbrev pub out_number : Bool → ℕ
out_number out = cond out 1 0

abbrev pub out_for : ℕ → Bool
out_for b = not (eqb b 0)

-- the rows of a scan result, with 0s past its last entry; and the first k entries in rows
abbrev pub result_rows : Lists.List Entry → Rows
result_rows l = tabulate 32 0 (λ p. (get_or l p (entry 0 0)).station) ∷ tabulate 32 0 (λ p. (get_or l p (entry 0 0)).job) ∷ []

abbrev pub entries_in : ℕ → Rows → Lists.List Entry
entries_in k rows = tabulate k 0 (λ p. entry (cell rows 0 p 0) (cell rows 1 p 0))

-- how many places of a row of n stations are shown: up to the last that has a station (02, Card 2); and the result that rows hold
abbrev pub shown_in : ℕ → Lists.List ℕ → ℕ
shown_in n stations = last_of n (λ p. not (eqb (get_or stations p 0) 0))

abbrev pub result_of : ℕ → Rows → Lists.List Entry
result_of n rows = entries_in (shown_in n (get_or rows 0 [])) rows

-- the rows at place i; past the array there is nothing
abbrev pub rows_at : Arrays → ℕ → Rows
rows_at a i = get_or a.results i []

-- READING: the state that arrays hold
abbrev pub label_row : Arrays → Bool → ℕ → Lists.List ℕ
label_row a x i = cell a.labels (plane x) i []

-- what is not labels, of n stations
abbrev pub rest_in : ℕ → Rows → Rows → Planes → Rest
rest_in n jobs control results = record {
  process = λ i. record {
    job = cell jobs 0 i 0;
    pending_job = cell jobs 1 i 0;
    phase = phase_for (cell control 0 i 0);
    out = out_for (cell control 1 i 0);
  };
  result = λ i. result_of n (get_or results i []);
}

abbrev pub rest_of : Arrays → Rest
rest_of a = rest_in a.count a.jobs a.control a.results

abbrev pub labels_in : Planes → Bool → ℕ → Labels.Label
labels_in labels x i = digit (cell labels (plane x) i [])

abbrev pub state_of : Arrays → State Labels.Label
state_of a = record { labels = labels_in a.labels; rest = rest_of a }

-- WRITING DOWN: the arrays of n stations that hold a state
abbrev pub jobs_of : Rest → Bool → ℕ → ℕ
jobs_of o x i = let p = o.process i in cond x p.pending_job p.job

abbrev pub control_of : Rest → Bool → ℕ → ℕ
control_of o x i = let p = o.process i in cond x (out_number p.out) (phase_number p.phase)

abbrev pub results_of : Rest → Planes
results_of o = tabulate 32 0 (λ i. result_rows (o.result i))

abbrev pub labels_of : (Bool → ℕ → Labels.Label) → Planes
labels_of l = planes (λ x i. row 31 (l x i))

unfoldable pub arrays_of : ℕ → State Labels.Label → Arrays
arrays_of n s = arrays n (labels_of s.labels) (planes (jobs_of s.rest)) (planes (control_of s.rest)) (results_of s.rest)

-- these three arrays hold the rest o and nothing else
pub record Holds (o : Rest) (j c : Rows) (r : Planes) : Type 0 where
  pub jobs : j ≡ planes (jobs_of o)
  pub control : c ≡ planes (control_of o)
  pub results : r ≡ results_of o
