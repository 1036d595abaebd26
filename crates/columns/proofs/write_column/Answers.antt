use borrow.Author.Tests.{eq-eqb, ne_eqb}
use mathlib.Core.Path.{ap, ◌∙◌}
use Prim.Native.Nat.{ℕ}
use native.Mathlib.Omega.{arith}
use lib.ListN.{length-set}
use Rattle.columns.specs.Columns.{column}
use Rattle.columns.proofs.Stores.{filled_first, filled_more, filled_last, column_none}
use Rattle.columns.proofs.write_column.Goals as goal

pub returns-then-out-eq0 : goal.returns-then-out-eq0
returns-then-out-eq0 c = column_none _ _ c.if-out-eq0.true

pub loop-i-init : goal.loop-i-init
loop-i-init c = filled_first c.args.out.now c.args.v c.if-out-eq0.false

pub loop-i-preserved-then-rest-eq0 : goal.loop-i-preserved-then-rest-eq0
loop-i-preserved-then-rest-eq0 c = filled_more _ _ c.loop-i.invariant (omega arith) (simp (eq-eqb _ _ c.if-rest-eq0.true)) (omega arith)

pub loop-i-preserved : goal.loop-i-preserved
loop-i-preserved c = filled_more _ _ c.loop-i.invariant (omega arith) (simp (ne_eqb _ _ c.if-rest-eq0.false)) (omega arith)

pub shape_of-out : goal.shape_of-out
shape_of-out c = c.loop-i.invariant.wide ∙ simp length-set

pub returns : goal.returns
returns c = filled_last c.loop-i.invariant (omega arith) ∙ ap (λ (n : ℕ). column n c.args.v)
    (length-set c.args.out.now _ _)
