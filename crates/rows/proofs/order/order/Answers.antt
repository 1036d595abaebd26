use mathlib.Core.Path.{◌≡◌, refl, ap, ◌∙◌}
use native.Mathlib.Omega.{arith}
use lib.Seq.{length-take-le}
use Rattle.basics.specs.Tests.{ordered}
use Rattle.rows.specs.Held.{stands_in}
use Rattle.rows.proofs.OrderLaws.{orderly_total, order_in, front_others, front_in_order, order_turns}
use borrow.Author.Rules.{rules}
use Rattle.rows.proofs.order.order.Goals as goal

pub loop-k-init : goal.loop-k-init
unfolding ordered
loop-k-init c = refl

pub slice_bounds-position-end : goal.slice_bounds-position-end
slice_bounds-position-end c = omega (arith, length-take-le c.loop-k.k c.loop-k.r)

pub position-q-requires : goal.position-q-requires
position-q-requires c =
    let inv = c.loop-k.invariant in record {
      orderly = c.requires;
      k_lt_n = search rules;
      others = front_others 32 _ _ _ inv _ (omega arith);
      by_index = front_in_order 32 _ _ _ inv (orderly_total _ _ c.requires) (omega arith);
    }

pub insert_at-requires : goal.insert_at-requires
insert_at-requires c = (omega (arith, length-take-le c.loop-k.k c.loop-k.r), omega arith)

pub loop-k-preserved : goal.loop-k-preserved
loop-k-preserved c = order_turns 32 _ c.loop-k.k c.loop-k.r c.loop-k.invariant c.position-q.result _ c.insert_at.ensures c.position-q.ensures.placed (omega arith)

pub returns : goal.returns
returns c =
    let args = c.args in
    let e : c.loop-k.k ≡ args.n = omega arith in
    c.loop-k.invariant ∙ ap (order_in 32 (stands_in args.n args.rows.now)) e
