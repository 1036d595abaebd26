-- Numbers for the snaps for a label of a sequence of calls, stated for tables of any form (02, Card 6).
use Rattle.std.specs.Prelude.{ℕ, ◌≡◌, Bool, cond, [], ◌∷◌, ◌++◌, map, length}
use mathlib.Core.List as Lists
use Rattle.simulation.specs.Calls.{Call, Board, judge}
use Rattle.simulation.specs.Machine.{digits, label_step}
use Rattle.simulation.specs.Machine as Machine
use Rattle.simulation.specs.Numbered.{numbered, Fits, Gapless, advances, newest_snap, zeros}
use Rattle.transition.specs.Forms.{Form, fresh_table, step_of}
use Rattle.transition.specs.Demand.{run_table, table_snaps, seen_in, unbounded}

-- the answers of the board's unbounded table of n stations, from its fresh state, where these numbers take the place of advances: each accepted snap for a
-- label uses up the next one, which becomes the pending number unless the station is the newest
abbrev pub with_numbers : Board → ℕ → Lists.List ℕ → Lists.List Call → Lists.List (Machine.Answer ℕ)
with_numbers B n ns calls = Machine.run B n numbered (Machine.fresh 0) ns calls

-- of each snap for a label that the table accepts, whether its station is the newest
unfoldable pub table_newest_snaps : (F : Form) → F.Table → Lists.List Call → Lists.List Bool
table_newest_snaps F t [] = []
table_newest_snaps F t (c ∷ cs) =
    let n = F.count t in
    let s = F.state t in
    cond (F.well_formed t) (newest_snap n (digits F.board n) s.labels (label_step (judge F.board n s.rest c))) [] ++ table_newest_snaps F (step_of F t c).table cs

-- These numbers do for the calls on the fresh table of n stations (02, Card 6):
-- - each: there is one for each accepted snap for a label;
-- - newest: 0 for those of the newest station, and for no others;
-- - fits: in the unbounded table 0 is given to the newest station too, and to any other a number above the top number, at most the count of these snaps;
-- - same: with them nothing that is seen of the unbounded table, refusals and scan results among it, ever differs from the table of labels;
-- - grown: its answers are those that it gives with advances, as in demand 3: what each number is above the top number;
-- - gapless: those that are not 0 are 1, 2 and so on, in any order, equal ones allowed.
-- Several lists may do: for one, stations whose labels are equal may share a number or not.
pub record Numbers (F : Form) (n : ℕ) (calls : Lists.List Call) (ns : Lists.List ℕ) : Type 0 where
  pub each : length ns ≡ table_snaps F (fresh_table F n) calls
  pub newest : zeros ns ≡ table_newest_snaps F (fresh_table F n) calls
  pub fits : Fits F.board n (table_snaps F (fresh_table F n) calls) (Machine.fresh 0) ns calls
  pub same : map (seen_in F) (run_table (step_of F) (fresh_table F n) calls) ≡ map (Machine.seen F.board n) (with_numbers F.board n ns calls)
  pub grown : with_numbers F.board n ns calls ≡ unbounded F.board n (advances F.board n (Machine.fresh 0) ns calls) calls
  pub gapless : Gapless ns
