use Rattle.std.proofs.Common.{◌≡◌, ◌+◌, ◌&&◌}
use Rattle.basics.specs.Tests.{every}
use Rattle.well_formed.specs.Loops.{fits_at}
use Rattle.well_formed.proofs.half_fits.Given as goal

abbrev pub invariant-loop-p : goal.invariant-loop-p
invariant-loop-p l = l.r ≡ every l.p (λ q. fits_at l.m l.current (l.h + q) && fits_at l.m l.pending (l.h + q))
