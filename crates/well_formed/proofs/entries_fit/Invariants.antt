use Rattle.std.proofs.Common.{◌≡◌, length, get_or}
use Rattle.basics.specs.Tests.{every}
use Rattle.arrays.specs.WellFormed.{entry_fits}
use Rattle.well_formed.proofs.entries_fit.Given as goal

abbrev pub invariant-loop-station : goal.invariant-loop-station
invariant-loop-station l = l.r ≡ every (length l.yielded) (λ i. entry_fits l.most (get_or l.stations i 0) (get_or l.jobs i 0))
