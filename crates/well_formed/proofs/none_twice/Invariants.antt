use Rattle.std.proofs.Common.{◌≡◌, ◌+◌, leb, get_or}
use Rattle.basics.specs.Tests.{every}
use Rattle.well_formed.proofs.none_twice.Given as goal

abbrev pub invariant-loop-c : goal.invariant-loop-c
invariant-loop-c l = l.r ≡ every l.c-index (λ k. leb (get_or l.fn.counts (k + 1) 0) 1)
