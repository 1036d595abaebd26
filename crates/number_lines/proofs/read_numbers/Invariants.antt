use Rattle.number_lines.proofs.Reading.{ReadSoFar}
use Rattle.number_lines.proofs.read_numbers.Given as goal

-- What is left to read is what the bytes behind the first i lines hold.
abbrev pub invariant-loop-i : goal.invariant-loop-i
invariant-loop-i l = ReadSoFar l.bytes l.initial.list l.list l.i
