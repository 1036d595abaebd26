use mathlib.Core.Path.{refl}
use native.Mathlib.Omega.{arith}
use Rattle.basics.specs.Tests.{ordered}
use Rattle.rows.proofs.OrderLaws.{order_long}
use Rattle.unbounded.proofs.NumberLaws.{level_turns}
use Rattle.unbounded.proofs.numbers.first_order.Goals as goal

pub loop-k-init : goal.loop-k-init
unfolding ordered
loop-k-init c = refl

pub loop-k-preserved : goal.loop-k-preserved
loop-k-preserved c =
    let at = c.loop-k in
    level_turns 32 at.k at.r at.invariant (omega arith) (omega (arith, order_long 32 _ _ _ at.invariant (omega arith)))
