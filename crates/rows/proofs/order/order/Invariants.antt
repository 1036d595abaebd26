use mathlib.Core.Path.{◌≡◌}
use Rattle.rows.specs.Held.{stands_in}
use Rattle.rows.proofs.OrderLaws.{order_in}
use Rattle.rows.proofs.order.order.Given as goal

abbrev pub invariant-loop-k : goal.invariant-loop-k
invariant-loop-k l = l.r ≡ order_in 32 (stands_in l.n l.rows) l.k
