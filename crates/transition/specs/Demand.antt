-- Demand 3, stated for tables of any form (01, "The growing-number table", "What demand 3 compares").
use Rattle.std.specs.Prelude.{ℕ, ◌+◌, ◌≤◌, ◌≡◌, ◌≢◌, cond, [], ◌∷◌, map, length, take}
use mathlib.Core.List as Lists
use Rattle.basics.specs.Tests.{All}
use Rattle.simulation.specs.Calls.{Call, Board}
use Rattle.simulation.specs.Machine.{numbers, snaps_of, Seen, Bounded}
use Rattle.simulation.specs.Machine as Machine
use Rattle.transition.specs.Forms.{Form, TableAnswer, fresh_table, step_of}

-- the answers to a sequence of calls, each on the table that the one before it left
unfoldable pub run_table : {T : Type 0} → (T → Call → TableAnswer T) → T → Lists.List Call → Lists.List (TableAnswer T)
run_table step t [] = []
run_table step t (c ∷ cs) = let a = step t c in a ∷ run_table step a.table cs

module _ (F : Form) where
  -- how many snaps for a label the table accepts
  unfoldable pub table_snaps : F.Table → Lists.List Call → ℕ
  table_snaps t [] = 0
  table_snaps t (c ∷ cs) = cond (F.well_formed t) (snaps_of F.board (F.count t) (F.state t) c) 0 + table_snaps (step_of F t c).table cs

  -- what is compared after each call: the refusal, the bytes or records written, the results that all stations hold, and which are out of service
  abbrev pub seen_in : TableAnswer F.Table → Seen
  seen_in a = Machine.seen F.board (F.count a.table) (record { state = F.state a.table; refusal = a.refusal; report = a.report })

-- the same of the board's unbounded table of n stations, from its fresh state, with these advances
abbrev pub unbounded : Board → ℕ → Lists.List ℕ → Lists.List Call → Lists.List (Machine.Answer ℕ)
unbounded B n advances calls = Machine.run B n numbers (Machine.fresh 0) advances calls

-- for these calls on the fresh table of n stations there are advances, each at least 1, one for each accepted snap for a label, counted on either
-- table; with them both tables show the same after every call; and after any number k of the calls no number, current or pending, exceeds the
-- count of such snaps in all the calls. No call is refused by 13.
pub record Demand3 (F : Form) (n : ℕ) (calls : Lists.List Call) : Type 0 where
  pub advances : Lists.List ℕ
  pub whole : All (λ a. 1 ≤ a) advances
  pub each : length advances ≡ table_snaps F (fresh_table F n) calls
  pub eachᵘ : length advances ≡ Machine.snaps F.board n numbers (Machine.fresh 0) advances calls
  pub same : map (seen_in F) (run_table (step_of F) (fresh_table F n) calls) ≡ map (Machine.seen F.board n) (unbounded F.board n advances calls)
  pub bound : (k : ℕ) → All (Bounded n (table_snaps F (fresh_table F n) calls)) (unbounded F.board n advances (take k calls))
  pub never13 : All (λ a. a.refusal ≢ 13) (run_table (step_of F) (fresh_table F n) calls)
