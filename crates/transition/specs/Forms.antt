-- A table is a state of the machine written down, and a step call on it is the machine's step (01, "The record of a station", "The steps", "When a step is
-- turned down"). In which form a table keeps a state is a parameter, with its board: the declared struct is one form, the arrays that are lent are another.
use Rattle.std.specs.Prelude.{ℕ, Bool, cond, [], ◌∷◌, ◌++◌, length, drop}
use mathlib.Core.List as Lists
use Rattle.label.specs.Labels as Labels
use Rattle.simulation.specs.Calls.{Call, Report, Bytes, Records, written, Board}
use Rattle.simulation.specs.Machine.{digits, State, fresh, step, fresh_label}
use Rattle.simulation.specs.Machine as Machine

-- tables of a board with their number of processes; the state that a table holds; the table of n processes that holds a state; and whether a table is
-- well-formed (13)
pub record Form : Type 1 where
  pub board : Board
  pub Table : Type 0
  pub count : Table → ℕ
  pub state : Table → State Labels.Label
  pub written : ℕ → State Labels.Label → Table
  pub well_formed : Table → Bool

-- the answer to a call: the table left, the refusal number (0: accepted), and what is written to the front of what is lent
pub record TableAnswer (T : Type 0) : Type 0 where
  pub table : T
  pub refusal : ℕ
  pub report : Report

abbrev pub refuse : {T : Type 0} → T → Call → ℕ → TableAnswer T
refuse t c x = record { table = t; refusal = x; report = written c.line c.room [] }

-- what is lent, with a list at its front and the rest kept; and with a report at its front, which is of its own kind (any other would leave it)
abbrev pub over : {A : Type 0} → Lists.List A → Lists.List A → Lists.List A
over l lent = l ++ drop (length l) lent

abbrev pub onto : Report → Report → Report
onto (Bytes l) (Bytes lent) = Bytes (over l lent)
onto (Records l) (Records lent) = Records (over l lent)
onto (Bytes l) (Records lent) = Records lent
onto (Records l) (Bytes lent) = Bytes lent

module _ (F : Form) where
  -- the fresh table of n processes: labels of the board's fill digit, no jobs, empty results, all idle and in service
  abbrev pub fresh_table : ℕ → F.Table
  fresh_table n = F.written n (fresh (fresh_label F.board))

  abbrev pub answered : ℕ → Machine.Answer Labels.Label → TableAnswer F.Table
  answered n a = record { table = F.written n a.state; refusal = a.refusal; report = a.report }

  -- a step call: 13 if the table is not well-formed; else the machine's step from the state that it holds, written down
  unfoldable pub step_of : F.Table → Call → TableAnswer F.Table
  step_of t c = let n = F.count t in cond (F.well_formed t) (answered n (step F.board n (digits F.board n) (F.state t) c)) (refuse t c 13)

  -- the table that a sequence of calls leaves
  unfoldable pub after : F.Table → Lists.List Call → F.Table
  after t [] = t
  after t (c ∷ cs) = after (step_of t c).table cs
