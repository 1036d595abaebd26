use mathlib.Core.Path.{◌≡◌}
use Rattle.rows.proofs.OrderLaws.{order_in}
use Rattle.unbounded.proofs.NumberLaws.{level}
use Rattle.unbounded.proofs.numbers.first_order.Given as goal

abbrev pub invariant-loop-k : goal.invariant-loop-k
invariant-loop-k l = l.r ≡ order_in 32 level l.k
