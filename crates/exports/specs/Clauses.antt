-- What the contracts of the exported functions say beside the step's.
use Rattle.std.specs.Prelude.{ℕ, ◌≡◌, Bool, cond, List}
use Rattle.basics.specs.Tests.{within}
use Rattle.transition.specs.Forms.{fresh_table}
use Rattle.arrays.specs.Arrays.{Arrays}
use Rattle.arrays.specs.Form.{lent}
use Rattle.logs.specs.Files.{ChecksLog}

-- a fresh table of n is asked for where the arrays a stand: 1 and the same arrays for a number of stations that is not 2 to 32 (01, refusal 1)
pub record Starts (n : ℕ) (a a' : Arrays) (r : ℕ) : Type 0 where
  pub refusal : r ≡ cond (within 2 32 n) 0 1
  pub table : a' ≡ cond (within 2 32 n) (fresh_table lent n) a

-- what is told of a log (02, Card 7): yes as 1, no as 0
pub record TellsOfLog (bs ns report : List ℕ) (refusal right : ℕ) : Type 0 where
  pub yes : Bool
  pub checks : ChecksLog bs ns report refusal yes
  pub told : right ≡ cond yes 1 0
