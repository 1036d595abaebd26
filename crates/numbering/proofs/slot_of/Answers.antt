use native.Mathlib.Omega.{arith}
use mathlib.Core.Path.{◌∙◌}
use Rattle.numbering.proofs.Slots.{searched_first, searched_own, apart_inside, searched_other, slot_shared, slot_after}
use borrow.Author.Rules.{rules}
use Rattle.numbering.proofs.slot_of.Goals as goal
use Rattle.numbering.proofs.slot_of.Goals.{else-i-k, then-i-k+else-p-m}

pub loop-i-init : goal.loop-i-init
loop-i-init c = (search rules, searched_first _ _ _ _ _)

pub returns-then-p-m : goal.returns-then-p-m
returns-then-p-m c =
    let at = c.loop-i in
    slot_shared _ _ _ _ _ at.invariant.1 c.if-i-k.true c.first_difference-p.ensures (omega arith) c.if-p-m.true

pub higher-highest-requires : goal.higher-highest-requires
higher-highest-requires c =
    let at = c.loop-i in
    let l = apart_inside _ _ _ _ _ at.invariant.1 c.if-i-k.true c.first_difference-p.ensures c.if-p-m.false in
    record {
      p_bound = omega arith;
      digit = (c.requires.by_index _ (omega arith) _ l, c.requires.by_index _ c.requires.k_lt_n.0 _ l);
    }

pub loop-i-preserved : goal.loop-i-preserved
loop-i-preserved c =
    let s = c.loop-i.invariant.1 in
    elim c.if-i-k.branch [
      | then-i-k+else-p-m w ↦ (search rules, searched_other _ _ _ _ _ s w.if-i-k.true w.first_difference-p.ensures w.if-p-m.false (w.highest-is ∙ w.higher-highest.ensures))
      | else-i-k w ↦ (search rules, searched_own _ _ _ _ _ s w.if-i-k.false w.highest-is)
    ]

pub returns : goal.returns
returns c = slot_after _ _ _ _ _ c.loop-i.invariant.1 (omega arith) (omega arith)
