-- What the program prints for a schedule file (02, Card 6, leaves open how the numbers are said).
use Rattle.std.specs.Prelude.{ℕ, List}
use Rattle.number_lines.specs.Lines.{number_lines}
use Rattle.moves.specs.Moves.{final_number}
use Rattle.schedule.specs.Files.{printed}
use Rattle.numbering.specs.Files.{numbering_refusal, file_numbers}

-- its numbers, each on a line of its own, or its refusal, on a line that bears the number 0; with a list of 4,096 entries none is too many
unfoldable pub printed_file : List ℕ → List ℕ
printed_file bs = printed 0 (final_number (numbering_refusal bs 4096)) (number_lines (file_numbers bs 4096))
