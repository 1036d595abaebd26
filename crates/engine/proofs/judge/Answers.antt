use native.Mathlib.Omega.{arith}
use Rattle.engine.proofs.Served.{shown_few}
use Rattle.engine.proofs.judge.Goals as goal
use Rattle.engine.proofs.judge.Goals.{then-number-eq-END_SCAN, else-number-eq-END_SCAN}

pub invariant_of-own : goal.invariant_of-own
invariant_of-own c = record {
  few = elim c.if-number-eq-END_SCAN.branch [
    | then-number-eq-END_SCAN w ↦ omega (arith, w.shown-is, w.shown_in-shown.ensures, shown_few)
    | else-number-eq-END_SCAN w ↦ omega (arith, w.shown-is)
  ];
}
