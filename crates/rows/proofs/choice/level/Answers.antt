use Prim.Native.Nat.{◌+◌, ◌-◌}
use mathlib.Core.Path.{◌≡◌, ◌∙◌, sym}
use native.Mathlib.Omega.{arith}
use lib.ListN.{length, get_or}
use borrow.Author.Count.{below_more}
use Rattle.rows.proofs.ChoiceLaws.{upto_none, upto_more, upto_small, level_is}
use Rattle.rows.proofs.choice.level.Goals as goal

pub loop-p-init : goal.loop-p-init
loop-p-init c = (upto_none _, λ q h. absurd (omega arith))

pub overflow_add-few : goal.overflow_add-few
overflow_add-few c =
    let a = c.args in
    let r = c.histogram-exact.result in
    let p = c.loop-p.p in
    omega (
      arith,
      upto_more r p,
      upto_small (length a.shared.now) a.k (λ j. get_or a.shared.now j 0) 32 r c.histogram-exact.ensures (omega arith) (p + 1)
          (omega arith),
    )

pub returns-then-few-p : goal.returns-then-few-p
returns-then-few-p c =
    let a = c.args in
    let r = c.histogram-exact.result in
    let p = c.loop-p.p in
    level_is (length a.shared.now) a.k (λ j. get_or a.shared.now j 0) 32 r c.histogram-exact.ensures (omega arith) p (omega arith) (omega arith)
    c.loop-p.invariant.1 (λ h. omega (arith, upto_more r p))

pub loop-p-preserved : goal.loop-p-preserved
loop-p-preserved c =
    let r = c.histogram-exact.result in
    let p = c.loop-p.p in
    (omega (arith, upto_more r p), below_more _ _ c.loop-p.invariant.1 (omega (arith, upto_more r p)))

pub returns : goal.returns
returns c =
    let a = c.args in
    let e : c.loop-p.p ≡ length a.shared.now - 1 = omega arith in
    sym e ∙ level_is (length a.shared.now) a.k (λ j. get_or a.shared.now j 0) 32 c.histogram-exact.result c.histogram-exact.ensures (omega arith)
    c.loop-p.p (omega arith) (omega arith)
    c.loop-p.invariant.1 (λ h. absurd (omega arith))
