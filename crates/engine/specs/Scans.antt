-- A scan in rows: the order of the stations, and the result that it stores.
use Rattle.std.specs.Prelude.{ℕ, ◌-◌, ◌++◌, get_or, take, replicate}
use mathlib.Core.List as Lists
use Rattle.basics.specs.Tests.{ordered}
use Rattle.rows.specs.Held.{stands_in}
use Rattle.simulation.specs.Calls.{Idle, Entry, Process}
use Rattle.simulation.specs.Machine.{scan_of}
use Rattle.arrays.specs.Arrays.{Rows, out_for, result_rows}

-- the stations in scan order, by the rows of their labels, and 0s past them
abbrev pub order_of : ℕ → Rows → Lists.List ℕ
order_of n rows = ordered n (stands_in n rows) ++ replicate (32 - n) 0

-- the processes that a snap finds, with what a scan asks for, their jobs and whether they are out of service; pending job and phase only fill the record
abbrev pub found : Lists.List ℕ → Lists.List ℕ → ℕ → Process
found jobs service i = record { job = get_or jobs i 0; pending_job = 0; phase = Idle; out = out_for (get_or service i 0) }

-- the result of a scan of the first n stations of an order, where the snap finds these processes; and its rows
abbrev pub scanned : ℕ → Lists.List ℕ → (ℕ → Process) → Lists.List Entry
scanned n order process = scan_of process (take n order)

abbrev pub scan_rows : ℕ → Lists.List ℕ → (ℕ → Process) → Rows
scan_rows n order process = result_rows (scanned n order process)
