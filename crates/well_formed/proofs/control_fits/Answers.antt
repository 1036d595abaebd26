use Rattle.std.proofs.Common.{arith}
use Rattle.basics.proofs.Loops.{flag_end}
use Rattle.well_formed.proofs.control_fits.Goals as goal

pub returns : goal.returns
returns c = flag_end _ c.loop-i.invariant (omega arith)
