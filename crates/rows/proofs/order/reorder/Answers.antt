use Prim.Native.Nat.{◌-◌, ◌<◌}
use native.Mathlib.Omega.{arith}
use lib.ListN.{length}
use lib.Seq.{length-take-le}
use Rattle.rows.proofs.OrderLaws.{relabelled, listed_long, place_found, others_room, others_all, others_in_order, put_where}
use Rattle.rows.proofs.order.reorder.Goals as goal
use Rattle.rows.proofs.order.reorder.Goals.{After-take_out}

pub take_out-requires : goal.take_out-requires
take_out-requires c =
    let pre = c.requires in
    let d = relabelled pre.orderly pre.k_lt_n pre.ordered_before in
    (place_found d, omega (arith, listed_long d, pre.orderly.high))

room : (c : goal.After-take_out) → c.args.n - 1 < length c.take_out.new.order
room c = others_room (relabelled c.requires.orderly c.requires.k_lt_n c.requires.ordered_before) _ c.take_out.ensures

pub slice_bounds-position-end : goal.slice_bounds-position-end
slice_bounds-position-end c = omega (arith, room (goal.at.slice_bounds-position-end c).After-take_out)

pub slice_bounds-position-end-2 : goal.slice_bounds-position-end-2
slice_bounds-position-end-2 c = let h = room (goal.at.slice_bounds-position-end-2 c).After-take_out in omega (arith, length-take-le (c.args.n - 1) c.take_out.new.order (omega arith))

pub position-q-requires : goal.position-q-requires
position-q-requires c =
    let pre = c.requires in
    let d = relabelled pre.orderly pre.k_lt_n pre.ordered_before in
    record {
      orderly = pre.orderly;
      k_lt_n = pre.k_lt_n;
      others = others_all d _ c.take_out.ensures;
      by_index = others_in_order d _ c.take_out.ensures;
    }

pub insert_at-requires : goal.insert_at-requires
insert_at-requires c =
    let h = room (goal.at.insert_at-requires c).After-take_out in
    (omega (arith, length-take-le (c.args.n - 1) c.take_out.new.order (omega arith)), h)

pub returns : goal.returns
returns c =
    let pre = c.requires in
    put_where (relabelled pre.orderly pre.k_lt_n pre.ordered_before) _ c.take_out.ensures _ _ c.position-q.ensures.placed c.insert_at.ensures
