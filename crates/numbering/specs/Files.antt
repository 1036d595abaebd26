-- The numbers of a schedule file: when they are refused, which they are, and what is handed back (02, Card 6).
use Rattle.std.specs.Prelude.{ℕ, ◌≡◌, ◌≢◌, cond, [], length, take, ltb, Option, Some, None, Result, Ok, Err}
use mathlib.Core.List as Lists
use Rattle.simulation.specs.Calls.{Call, original}
use Rattle.simulation.specs.Numbering.{numbers_of}
use Rattle.transition.specs.Forms.{over}
use Rattle.moves.specs.Moves.{final_number}
use Rattle.moves.specs.declared.Refusal.{Refusal}
use Rattle.moves.specs.declared.Refusal.TheVariants.{ListTooShort}
use Rattle.arrays.specs.Form.{lent}
use Rattle.schedule.specs.Lines.{header_read}
use Rattle.schedule.specs.Demand.{file_calls}
use Rattle.schedule.specs.Numbers.{final_of, surveyed, snap_calls, FileNumbers}

-- THE CHOICE: behind a header, the numbers that are found beside the labels. 02 leaves it open, as more than one list may do.
abbrev pub chosen_behind : Result ℕ Refusal → Lists.List Call → Lists.List ℕ
chosen_behind (Err r) cs = []
chosen_behind (Ok n) cs = numbers_of original n cs

-- REFUSALS, before any step is run: the final refusal of the file; then 16; then 17 where the lent list has room for fewer numbers than there are lines of
-- step 3
abbrev pub refused_by : Option Refusal → ℕ → ℕ → ℕ → Option Refusal
refused_by final steps snaps room = surveyed final steps (cond (ltb room snaps) (Some ListTooShort) None)

unfoldable pub numbering_refusal : Lists.List ℕ → ℕ → Option Refusal
numbering_refusal bs room = refused_by (final_of bs) (length (file_calls original bs)) (snap_calls (file_calls original bs)) room

-- THE NUMBERS OF A FILE; none if it is refused
abbrev pub numbers_behind : Option Refusal → Lists.List ℕ → Lists.List ℕ
numbers_behind (Some r) ns = []
numbers_behind None ns = ns

unfoldable pub file_numbers : Lists.List ℕ → ℕ → Lists.List ℕ
file_numbers bs room = numbers_behind (numbering_refusal bs room) (chosen_behind (header_read original (take 18 bs)) (file_calls original bs))

-- what is handed back for a file and a lent list: the refusal number and the count of numbers; and the list that is left, with the numbers at its front. Where
-- the file is refused, none is counted and the list is whole; else the numbers do for the file.
pub record NumbersFile (bs list : Lists.List ℕ) (refusal written : ℕ) (list' : Lists.List ℕ) : Type 0 where
  pub number : refusal ≡ final_number (numbering_refusal bs (length list))
  pub count : written ≡ length (file_numbers bs (length list))
  pub left : list' ≡ over (file_numbers bs (length list)) list
  pub refused : refusal ≢ 0 → (written ≡ 0) × (list' ≡ list)
  pub served : refusal ≡ 0 → (n : ℕ) × (header_read original (take 18 bs) ≡ Ok n) × FileNumbers lent bs n (file_numbers bs (length list))
