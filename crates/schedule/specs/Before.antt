-- What Card 1 leaves as it was (the last sentence of 02's Card 1): schedules that snapped right after they began a scan list what they would if scans still had
-- a snap of their own. Stated over the bytes of a file and of its two reports.
use Rattle.std.specs.Prelude.{ℕ, ◌≡◌, true, [], ◌∷◌, Ok}
use mathlib.Core.List as Lists
use Rattle.simulation.specs.Calls.{Board, apart}
use Rattle.transition.specs.Forms.{Form}
use Rattle.transition.specs.WellFormed.{Stated, stated}
use Rattle.schedule.specs.Tables.{tables}
use Rattle.schedule.specs.Lines.{a_step, line_read}
use Rattle.schedule.specs.Files.{step_lines, file_report}
use Rattle.schedule.specs.Scans.{scan_lines}

-- BEFORE: document 01's board, where step 2 only begins a scan; which stations a scan shows is the same on both (02, Cards 2 and 4), and so are steps 6 and 7.
-- The declared table has no phase between the begin and the snap, so its tables are the machine's states themselves, and each is well-formed.

abbrev pub as_states : Board → Form
as_states B = record { board = B; Table = Stated; count = λ t. t.count; state = λ t. t.state; written = stated; well_formed = λ t. true }

-- THE SCHEDULE: behind each line of code 2 stands one of code 3, of the same station and with job 0

-- the first of these lines is a step 3 of the station with job 0
abbrev pub SnapNext : ℕ → Lists.List (Lists.List ℕ) → Type 0
SnapNext station [] = ⊥
SnapNext station (l ∷ ls) = line_read l ≡ Ok (a_step station 3 0)

abbrev pub Followed : Lists.List (Lists.List ℕ) → Type 0
Followed [] = Unit {0}
Followed (l ∷ ls) = ((station job : ℕ) → line_read l ≡ Ok (a_step station 2 job) → SnapNext station ls) × Followed ls

-- both show the same scans: the lines of their reports that are of scans. All others tell of a refusal: behind a step 2 that is accepted the step 3 is
-- refused by 4 now.
abbrev pub ScansAsBefore : Form → Lists.List ℕ → Type 0
ScansAsBefore F bs = Followed (step_lines bs) → scan_lines (file_report (tables F) bs) ≡ scan_lines (file_report (tables (as_states apart)) bs)
