-- The lines of the first i numbers are written, and the rest of the buffer is the old one.
use Rattle.std.proofs.Common.{◌≡◌, take}
use Rattle.number_lines.proofs.Printing.{printed}
use Rattle.number_lines.proofs.print_numbers.Given as goal

abbrev pub invariant-loop-i : goal.invariant-loop-i
invariant-loop-i l = l.out ≡ printed (take l.i l.list) l.initial.out
