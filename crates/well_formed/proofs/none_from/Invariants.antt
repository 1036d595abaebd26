use Rattle.std.proofs.Common.{◌≡◌, ◌+◌, eqb, get_or}
use Rattle.basics.specs.Tests.{every}
use Rattle.well_formed.proofs.none_from.Given as goal

abbrev pub invariant-loop-x : goal.invariant-loop-x
invariant-loop-x l = l.r ≡ every l.x-index (λ k. eqb (get_or l.row (l.n + k) 0) 0)
