use mathlib.Core.Path.{refl}
use native.Mathlib.Omega.{arith}
use Rattle.number_lines.specs.Lines.{number_lines}
use Rattle.number_lines.proofs.Printing.{numbers_more}
use Rattle.number_lines.proofs.print_numbers.Goals as goal

pub loop-i-init : goal.loop-i-init
unfolding number_lines
loop-i-init c = refl

pub loop-i-preserved : goal.loop-i-preserved
loop-i-preserved c = numbers_more _ _ c.loop-i.i _ c.loop-i-test.true (omega arith) c.loop-i.invariant c.print_number.ensures
