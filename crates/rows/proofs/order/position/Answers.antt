use Prim.Native.Nat.{◌+◌, ◌/◌, ◌<◌}
use mathlib.Core.Path.{◌≡◌}
use native.Mathlib.Omega.{arith}
use lib.ListN.{length, get_or}
use Rattle.rows.proofs.OrderLaws.{orderly_total, Other, put_in_lem, before_front, before_back}
use Rattle.basics.proofs.Facts.{all_at}
use lib.Seq.{take_all}
use borrow.Author.Rules.{rules}
use Rattle.rows.proofs.order.position.Goals as goal
use Rattle.rows.proofs.order.position.Goals.{In-loop-low}

listed : (c : goal.In-loop-low)
    → get_or c.args.order.now ((c.loop-low.low + c.loop-low.high) / 2) 0
    < c.args.n
listed c = (all_at (Other c.args.n c.args.k) c.args.order.now 0 c.requires.others ((c.loop-low.low + c.loop-low.high) / 2) (omega arith)).0

pub loop-low-init : goal.loop-low-init
loop-low-init c = (search rules, search rules, λ p h. absurd (omega arith), λ p h u. absurd (omega arith))

pub offset_bounds-rows-i : goal.offset_bounds-rows-i
offset_bounds-rows-i c = let h = listed (goal.at.offset_bounds-rows-i c).In-loop-low in omega arith

pub bounds-rows-i : goal.bounds-rows-i
bounds-rows-i c = let h = listed (goal.at.bounds-rows-i c).In-loop-low in omega arith

pub label_before-requires : goal.label_before-requires
label_before-requires c =
    let valid = c.requires.orderly.valid in
    let h = listed (goal.at.label_before-requires c).In-loop-low in
    record {
      m_bound = search rules;
      valid = valid _ (omega arith);
      valid_2 = valid _ (omega arith);
    }

pub loop-low-preserved-then-label_before : goal.loop-low-preserved-then-label_before
loop-low-preserved-then-label_before c = (
  omega arith,
  search rules,
  before_front (orderly_total _ _ c.requires.orderly) _ c.requires.k_lt_n _ c.args.order.now (all_at (Other c.args.n c.args.k) c.args.order.now 0 c.requires.others) c.requires.by_index _
      (omega arith) c.label_before.ensures c.if-label_before.true,
  c.loop-low.invariant.3,
)

pub loop-low-preserved : goal.loop-low-preserved
loop-low-preserved c = (
  omega arith,
  omega arith,
  c.loop-low.invariant.2,
  before_back (orderly_total _ _ c.requires.orderly) _ c.requires.k_lt_n _ c.args.order.now (all_at (Other c.args.n c.args.k) c.args.order.now 0 c.requires.others) c.requires.by_index _
      (omega arith) c.label_before.ensures c.if-label_before.false,
)

pub returns : goal.returns
returns c =
    let l = c.args.order.now in
    let e : c.loop-low.low ≡ c.loop-low.high = omega arith in
    record {
      upper_bound = search rules;
      placed = rw (take_all (length l) l (omega arith)) at (put_in_lem (orderly_total _ _ c.requires.orderly) _ c.requires.k_lt_n (length l) l
          (all_at (Other c.args.n c.args.k) l 0 c.requires.others) (omega arith) c.loop-low.low (omega arith) c.loop-low.invariant.2 (λ p h. c.loop-low.invariant.3 p (omega arith)));
    }
