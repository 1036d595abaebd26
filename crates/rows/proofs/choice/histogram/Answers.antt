use native.Mathlib.Omega.{arith}
use mathlib.Core.Path.{◌≡◌, ap}
use mathlib.Core.Bool.{not, ◌&&◌}
use lib.ListN.{length, get_or, length-set, get_or-replicate}
use lib.Dec.{eqb}
use borrow.Author.Rules.{rules}
use borrow.Author.Tests.{eq-eqb, ne_eqb}
use Rattle.basics.specs.Tests.{count}
use Rattle.basics.proofs.Facts.{count_bound}
use Rattle.basics.proofs.Counts.{tally_hit, tally_miss}
use Rattle.rows.proofs.choice.histogram.Goals as goal
use Rattle.rows.proofs.choice.histogram.Goals.{else-j-k, then-j-k}

pub loop-j-init : goal.loop-j-init
unfolding count
loop-j-init c = (search rules, λ q h. get_or-replicate 32 q 0 0 h)

pub overflow_add-r : goal.overflow_add-r
overflow_add-r c =
    let s = c.args.shared.now in
    let k = c.args.k in
    let j = c.loop-j.j in
    let q = get_or s j 0 in
    omega (
      arith,
      c.loop-j.invariant.1 q (c.requires.by_index c.loop-j.j (omega arith)),
      count_bound j (λ i. not (eqb i k) && eqb (get_or s i 0) q),
    )

pub loop-j-preserved : goal.loop-j-preserved
loop-j-preserved c =
    let s = c.args.shared.now in
    let k = c.args.k in
    let r = c.loop-j.r in
    let j = c.loop-j.j in
    let old = c.loop-j.invariant.1 in
    let l : length r ≡ 32 = c.loop-j.invariant.0 in
    let small = c.requires.by_index c.loop-j.j (omega arith) in
    elim c.if-j-k.branch [
      | then-j-k w ↦ (
        rw w.r-is (simp length-set l),
        rw w.r-is (tally_hit 32 (λ i. not (eqb i k)) (λ i. get_or s i 0) r j old (ap not (ne_eqb j k w.if-j-k.true)) small (omega arith)),
      )
      | else-j-k w ↦ (rw w.r-is l, rw w.r-is (tally_miss 32 (λ i. not (eqb i k)) (λ i. get_or s i 0) r j old (ap not (eq-eqb j k w.if-j-k.false))))
    ]
