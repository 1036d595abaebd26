use Prim.Native.Nat.{◌-◌}
use native.Mathlib.Omega.{arith}
use Rattle.rows.proofs.OrderLaws.{before_front, before_back}
use Rattle.unbounded.proofs.NumberLaws.{row_total}
use Rattle.unbounded.proofs.numbers.position.Goals as goal

pub returns-then-before : goal.returns-then-before
returns-then-before c =
    let at = c.loop-q in
    record {
      upper_bound = omega arith;
      by_index_3 = λ p h. before_front (row_total 32 c.args.numbers.now) _ c.requires.k_bound.0 _ c.args.order.now c.requires.by_index c.requires.by_index_2
          (at.q - 1) (omega arith) c.before-in-loop-q.ensures c.if-before.true p h;
      by_index_4 = λ p h. at.invariant p (omega arith);
    }

pub loop-q-preserved : goal.loop-q-preserved
loop-q-preserved c =
    before_back (row_total 32 c.args.numbers.now) _ c.requires.k_bound.0 _ c.args.order.now c.requires.by_index c.requires.by_index_2 (c.loop-q.q - 1)
    (omega arith) c.before-in-loop-q.ensures c.if-before.false
