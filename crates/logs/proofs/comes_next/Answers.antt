use Prim.Native.Nat.{◌+◌}
use native.Mathlib.Nat.{add-zero}
use native.Mathlib.Omega.{arith}
use mathlib.Core.Path.{refl, sym, ap, ◌∙◌}
use lib.ListN.{drop, length-drop}
use Rattle.transition.specs.Logs.{at_front}
use Rattle.transition.proofs.Logs.{front_short}
use Rattle.logs.proofs.Checks.{bytes_more, bytes_end}
use Rattle.logs.proofs.comes_next.Goals as goal

pub returns-then-part-at : goal.returns-then-part-at
returns-then-part-at c = sym (front_short _ _ (omega (arith, c.if-part-at.true, length-drop c.args.at c.args.part.now)))

pub loop-i-init : goal.loop-i-init
loop-i-init c =
    let s = c.args in
    (omega arith, refl, omega (arith, c.if-part-at.false, c.requires), ap (λ k. at_front s.bytes.now (drop k s.part.now)) (sym (add-zero s.at)))

pub loop-i-preserved : goal.loop-i-preserved
loop-i-preserved c =
    let l = c.loop-i in
    let h = c.loop-i-test.true in
    let s = c.args in
    (omega (arith, h), refl, l.invariant.2, l.invariant.3 ∙ bytes_more s.bytes.now s.part.now s.at l.i l.same h (omega (arith, l.invariant.2, h)))

pub returns : goal.returns
returns c =
    let l = c.loop-i in
    let s = c.args in
    sym (l.invariant.3 ∙ bytes_end s.bytes.now (drop (s.at + l.i) s.part.now) l.i l.same c.loop-i-test.false)
