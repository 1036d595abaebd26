use Prim.Native.Nat.{ℕ, ◌-◌, ◌≤◌, ◌<◌}
use mathlib.Core.Path.{◌≡◌}
use mathlib.Core.Bool.{true}
use native.Mathlib.Omega.{arith}
use lib.ListN.{get_or}
use Rattle.unbounded.specs.Numbers.{stands_by}
use Rattle.rows.proofs.OrderLaws.{listed_long, place_found, others_room, others_listed, others_sorted, put_again}
use Rattle.unbounded.proofs.NumberLaws.{renumbered}
use Rattle.unbounded.proofs.numbers.reorder.Goals as goal
use Rattle.unbounded.proofs.numbers.reorder.Goals.{After-position-q}

pub take_out-requires : goal.take_out-requires
take_out-requires c =
    let pre = c.requires in
    let d = renumbered pre.k_lt_n.0 pre.k_lt_n.1 pre.numbered_before in
    (place_found d, omega (arith, listed_long d))

pub position-q-requires : goal.position-q-requires
position-q-requires c =
    let pre = c.requires in
    let d = renumbered pre.k_lt_n.0 pre.k_lt_n.1 pre.numbered_before in
    let out = c.take_out.ensures in record {
      k_bound = (omega arith, omega (arith, others_room d _ out));
      by_index = λ p h. let other = others_listed d _ out p h in (omega (arith, other.0), other.1);
      by_index_2 = others_sorted d _ out;
    }

pub insert_at-requires : goal.insert_at-requires
insert_at-requires c =
    let pre = c.requires in
    let d = renumbered pre.k_lt_n.0 pre.k_lt_n.1 pre.numbered_before in
    (omega (arith, c.position-q.ensures.upper_bound), others_room d _ c.take_out.ensures)

-- the place found is that of the station
abbrev Stands : goal.After-position-q → Type 0
Stands c =
    let q = c.position-q.result in
    let order = c.take_out.new.order in
    (q ≤ c.args.n - 1) × ((p : ℕ) → p < q → stands_by c.args.numbers.now (get_or order p 0) c.args.k ≡ true)
    × ((p : ℕ) → q ≤ p → p < c.args.n - 1 → stands_by c.args.numbers.now c.args.k (get_or order p 0) ≡ true)

stands : (c : goal.After-position-q) → Stands c
stands c = (c.position-q.ensures.upper_bound, c.position-q.ensures.by_index_3, c.position-q.ensures.by_index_4)

put : ((c : goal.After-position-q) → Stands c) → goal.returns
put h c =
    let pre = c.requires in
    let place = h (goal.at.returns c).After-position-q in
    put_again (renumbered pre.k_lt_n.0 pre.k_lt_n.1 pre.numbered_before) _ c.take_out.ensures _ _ place.0 place.1 place.2 c.insert_at.ensures

pub returns : goal.returns
returns c = put stands c
