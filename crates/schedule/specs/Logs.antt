-- Logs of schedule files (02, Card 7).
use Rattle.std.specs.Prelude.{ℕ, ◌≡◌, map, take, Ok}
use mathlib.Core.List as Lists
use Rattle.simulation.specs.Calls.{original}
use Rattle.transition.specs.Forms.{Form, fresh_table, step_of}
use Rattle.transition.specs.Demand.{run_table}
use Rattle.transition.specs.Logs.{lists, Right}
use Rattle.schedule.specs.Lines.{header_read}
use Rattle.schedule.specs.Demand.{file_calls}

-- all that the step lines of a file of n stations write on a table of this form
abbrev pub file_lists : (F : Form) → ℕ → Lists.List ℕ → Lists.List ℕ
file_lists F n bs = lists (map (λ a. a.report) (run_table (step_of F) (fresh_table F n) (file_calls F.board bs)))

-- a log is right: a file with an accepted header, numbers for its steps, and the bytes that the unbounded table of the original board writes with them (02,
-- Card 7)
pub record RightLog (bs ns bytes : Lists.List ℕ) : Type 0 where
  pub stations : ℕ
  pub header : header_read original (take 18 bs) ≡ Ok stations
  pub log : Right original stations (file_calls original bs) ns bytes
