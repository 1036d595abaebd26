-- What reading sessions and schedule files use of tables.
use Rattle.std.specs.Prelude.{ℕ, Bool}
use Rattle.simulation.specs.Calls.{Board, Call}
use Rattle.transition.specs.Forms.{Form, TableAnswer, fresh_table, step_of}

-- their board, whose sizes a header is held to; the fresh table of n processes; what a step call does; and whether a line may come to a table (13)
pub record Tables : Type 1 where
  pub board : Board
  pub Table : Type 0
  pub fresh : ℕ → Table
  pub step : Table → Call → TableAnswer Table
  pub well_formed : Table → Bool

-- those of a form
abbrev pub tables : Form → Tables
tables F = record { board = F.board; Table = F.Table; fresh = fresh_table F; step = step_of F; well_formed = F.well_formed }
