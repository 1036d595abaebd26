use Prim.Native.Nat.{ℕ}
use native.Mathlib.Omega.{arith}
use mathlib.Core.Path.{ap, ◌∙◌}
use Rattle.label.specs.Labels.{next_label, new_label}
use Rattle.label.specs.Rows.{row}
use Rattle.rows.specs.Held.{held}
use Rattle.rows.proofs.ChoiceLaws.{shared_small, level_found, level_inside}
use borrow.Author.Rules.{rules}
use Rattle.rows.proofs.choice.new_label.Goals as goal

pub level-p-requires : goal.level-p-requires
level-p-requires c =
    let a = c.args in record {
      k_lt_n = search rules;
      by_index = shared_small 32 a.n (held a.rows.now) a.z a.k c.shared_prefixes-shared.result c.shared_prefixes-shared.ensures
          (omega arith);
    }

pub next_label-requires : goal.next_label-requires
next_label-requires c =
    let a = c.args in
    let o = c.requires in
    let l = level_inside 32 a.n (held a.rows.now) a.z a.k c.shared_prefixes-shared.result
    c.shared_prefixes-shared.ensures (omega arith)
    c.level-p.result c.level-p.ensures (omega arith) (omega arith) o.z_lt_n.2 in
    record {
      h_bound = omega arith;
      digit = o.orderly.valid a.z (omega arith) c.level-p.result l;
    }

pub returns : goal.returns
unfolding new_label
returns c =
    let a = c.args in
    c.next_label.ensures ∙ ap (λ (p : ℕ). row 31 (next_label 1 (held a.rows.now a.z) p))
    (level_found 32 a.n (held a.rows.now) a.z a.k c.shared_prefixes-shared.result
    c.shared_prefixes-shared.ensures (omega arith)
    c.level-p.result c.level-p.ensures (omega arith))
