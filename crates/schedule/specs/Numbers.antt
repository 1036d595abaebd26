-- What numbers owe to a schedule file, and the lines of a file that are only read, not run; all of it stated over the bytes of the file (02, Cards 6 and 7).
use Rattle.std.specs.Prelude.{ℕ, ◌≡◌, cond, map, length, take, eqb, ltb, Option, Some, None, Result, Ok, Err}
use mathlib.Core.List as Lists
use Rattle.basics.specs.Tests.{passing}
use Rattle.simulation.specs.Calls.{original, Call}
use Rattle.simulation.specs.Machine as Machine
use Rattle.transition.specs.Forms.{Form}
use Rattle.transition.specs.Numbers.{with_numbers, Numbers}
use Rattle.moves.specs.declared.Refusal.{Refusal}
use Rattle.moves.specs.declared.Refusal.TheVariants.{TooManySteps}
use Rattle.schedule.specs.Tables.{tables}
use Rattle.schedule.specs.Lines.{header_read}
use Rattle.schedule.specs.Files.{lines_of, step_lines, file_report}
use Rattle.schedule.specs.Demand.{step_calls, ending, file_calls, printed_calls}
use Rattle.schedule.specs.declared.Survey.{Survey}

-- the final refusal of a file for the original board: the header's, or that of the first line that has one
abbrev pub final_after : Result ℕ Refusal → Lists.List (Lists.List ℕ) → Option Refusal
final_after (Err r) ls = Some r
final_after (Ok n) ls = ending 1 ls

abbrev pub final_of : Lists.List ℕ → Option Refusal
final_of bs = final_after (header_read original (take 18 bs)) (step_lines bs)

-- REFUSALS of a file that is read before any step is run (02, Cards 6 and 7): the final one; then 16 for more than 4,096 step lines; then `next`, what a card
-- has of its own
abbrev pub surveyed : Option Refusal → ℕ → Option Refusal → Option Refusal
surveyed (Some r) steps next = Some r
surveyed None steps next = cond (ltb 4096 steps) (Some TooManySteps) next

-- those of Card 7, which has no other
unfoldable pub reading_refusal : Lists.List ℕ → Option Refusal
reading_refusal bs = surveyed (final_of bs) (length (file_calls original bs)) None

-- how many of some calls are of step 3, whatever they are answered
abbrev pub snap_calls : Lists.List Call → ℕ
snap_calls cs = length (passing (λ c. eqb c.code 3) cs)

-- numbers that do for a file of n stations, all of whose lines are steps: they do for its steps, and the report of the file is what the unbounded table
-- prints with them
pub record FileNumbers (F : Form) (bs : Lists.List ℕ) (n : ℕ) (ns : Lists.List ℕ) : Type 0 where
  pub numbers : Numbers F n (file_calls F.board bs) ns
  pub report : file_report (tables F) bs ≡ printed_calls (file_calls F.board bs) (map (Machine.seen F.board n) (with_numbers F.board n ns (file_calls F.board bs)))

-- A PART OF A FILE, only read: the lines behind `lines` others, up to a final refusal; how many of them are steps, and how many of these are of step 3

pub record Surveys (lines : ℕ) (chunk : Lists.List ℕ) (r : Survey) : Type 0 where
  pub refusal : r.refusal ≡ ending lines (lines_of chunk)
  pub steps : r.steps ≡ length (step_calls original lines (lines_of chunk))
  pub snaps : r.snaps ≡ snap_calls (step_calls original lines (lines_of chunk))
