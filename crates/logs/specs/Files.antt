-- What is told of the log of a schedule file (02, Card 7).
use Rattle.std.specs.Prelude.{ℕ, ◌≡◌, ◌≢◌, ◌↔◌, Bool, true, false, cond, List, [], ◌∷◌, Result, Ok, Err}
use Rattle.number_lines.specs.Lines.{NumberLines}
use Rattle.moves.specs.Moves.{final_number}
use Rattle.moves.specs.declared.Refusal.{Refusal}
use Rattle.schedule.specs.Numbers.{reading_refusal}
use Rattle.schedule.specs.Logs.{RightLog}

-- whether a log is said to be right; a refused one is not
abbrev pub told_yes : Result Bool Refusal → Bool
told_yes (Ok b) = b
told_yes (Err r) = false

-- a file, the numbers and the report of its log: the refusal number, by the file alone; and where it is 0, yes exactly if the log is right
pub record ChecksLog (bs ns report : List ℕ) (refusal : ℕ) (yes : Bool) : Type 0 where
  pub number : refusal ≡ final_number (reading_refusal bs)
  pub refused : refusal ≢ 0 → yes ≡ false
  pub exactly : refusal ≡ 0 → (yes ≡ true) ↔ RightLog bs ns report

-- a log whose numbers are the bytes of a file: they are the lines of numbers with which the log is right
pub record RightFile (bs numbers report : List ℕ) : Type 0 where
  pub given : List ℕ
  pub lines : NumberLines numbers given
  pub log : RightLog bs given report

-- yes or no, each on a line of its own; 02 leaves open how it is said
abbrev pub answer_bytes : Bool → List ℕ
answer_bytes b = cond b (121 ∷ (101 ∷ (115 ∷ (10 ∷ [])))) (110 ∷ (111 ∷ (10 ∷ [])))
