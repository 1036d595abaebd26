use Rattle.std.proofs.Common.{◌≡◌}
use Rattle.basics.specs.Tests.{every}
use Rattle.well_formed.specs.Loops.{control_at}
use Rattle.well_formed.proofs.control_fits.Given as goal

abbrev pub invariant-loop-i : goal.invariant-loop-i
invariant-loop-i l = l.r ≡ every l.i (control_at l.n l.control)
